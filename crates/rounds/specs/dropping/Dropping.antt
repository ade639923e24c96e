-- What our own crates promise each other; nothing here has to be believed.
-- Bindings that failed are dropped, and those that they served are marked for the next round.
use Rattle.std.specs.Prelude.{ℕ, ◌+◌, ◌<◌, ◌≤◌, ◌≡◌, List, length, get_or}
use Rattle.casefile.specs.Records.{Record}
use Rattle.index.specs.layout.Layout.{word_bits, max_binding_words}
use Rattle.marks.specs.Marks.{bit_of, In}
use Rattle.marks.specs.briefs.Briefs.{Marked}
use Rattle.tables.specs.Facts.{CandidatesAre}
use Rattle.tables.specs.Filling.{words_for}
use Rattle.rounds.specs.Resting.{total, Frame, Noted, Room}
use Rattle.rounds.specs.tested.Tested.{Grows, Todo}
use Rattle.rounds.specs.declared.tested.Sizes.{Sizes}

-- a word is joined to word k
pub record JoinsWord (k word : ℕ) (into after : List ℕ) : Type 0 where
  pub long : length after ≡ length into
  pub grows : Grows into after
  pub joined : k < length into → (j : ℕ) → bit_of j word ≡ 1 → bit_of j (get_or after k 0) ≡ 1

-- those words at a place are joined whose bits are in a word
pub record JoinsWords (words : List ℕ) (at some : ℕ) (into after : List ℕ) : Type 0 where
  pub long : length after ≡ length into
  pub grows : Grows into after
  pub joined : (k : ℕ) → bit_of k some ≡ 1 → k < word_bits → k < length into → (j : ℕ) → j < word_bits → bit_of j (get_or words (at + k) 0) ≡ 1 → bit_of j (get_or after k 0) ≡ 1

-- what is marked in a set at a place with a brief is joined to what there is to do
pub record Joins (words : List ℕ) (at brief : ℕ) (into after : List ℕ) : Type 0 where
  pub long : length after ≡ length into
  pub grows : Grows into after
  pub joined : (m : ℕ) → max_binding_words < length into → Marked words at brief m → Todo after m

-- binding b is dropped
pub record Drops (t firsts users : List ℕ) (sizes : Sizes) (b : ℕ) (sets flags todo sets' flags' todo' : List ℕ) : Type 0 where
  pub sets_long : length sets' ≡ length sets
  pub flags_long : length flags' ≡ length flags
  pub todo_long : length todo' ≡ length todo
  pub gone : b < length flags → get_or flags' b 0 ≡ 0
  pub others : (c : ℕ) → (c ≡ b → ⊥) → get_or flags' c 0 ≡ get_or flags c 0
  pub grows : Grows todo todo'
  pub candidates : (rs : List Record) → Frame rs t firsts sizes → b < total rs → b < length flags → CandidatesAre rs flags sets (words_for rs) → CandidatesAre rs flags' sets' (words_for rs)
  pub marked : (rs : List Record) → Frame rs t firsts sizes → Room rs users → b < total rs → max_binding_words < length todo → (d : ℕ) → Noted rs users d b → Todo todo' d

-- all bindings that failed are dropped, where they are from the least on and before the past
pub record DropsAll (t firsts users : List ℕ) (sizes : Sizes) (failed sets flags todo : List ℕ) (least past : ℕ) (sets' flags' todo' : List ℕ) : Type 0 where
  pub sets_long : length sets' ≡ length sets
  pub flags_long : length flags' ≡ length flags
  pub todo_long : length todo' ≡ length todo
  pub gone : (rs : List Record) → Frame rs t firsts sizes → past ≤ total rs → total rs ≤ length flags → (c : ℕ) → least ≤ c → c < past → In failed 0 c → get_or flags' c 0 ≡ 0
  pub others : (c : ℕ) → (In failed 0 c → ⊥) → get_or flags' c 0 ≡ get_or flags c 0
  pub candidates : (rs : List Record) → Frame rs t firsts sizes → past ≤ total rs → total rs ≤ length flags → CandidatesAre rs flags sets (words_for rs) → CandidatesAre rs flags' sets' (words_for rs)
  pub marked : (rs : List Record) → Frame rs t firsts sizes → Room rs users → past ≤ total rs → max_binding_words < length todo
      → (c d : ℕ) → least ≤ c → c < past → In failed 0 c → Noted rs users d c → Todo todo' d

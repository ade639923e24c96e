-- What our own crates promise each other; nothing here has to be believed.
-- Shrinking by rounds: each round tests the bindings whose notes the round before hit, and drops those that fail.
use Rattle.std.specs.Prelude.{ℕ, ◌+◌, ◌%◌, ◌<◌, ◌≤◌, ◌≡◌, true, List, ◌++◌, length, get_or, take, drop, replicate}
use Rattle.scheme.specs.Typing.{Binding}
use Rattle.scheme.specs.Rounds
use Rattle.scheme.specs.Flags.{is_kept, chosen, kept_flags}
use Rattle.casefile.specs.Records.{Record}
use Rattle.casefile.specs.Tables.{bindings_of}
use Rattle.index.specs.layout.Layout.{max_binding_words, row_limit}
use Rattle.marks.specs.Marks.{In}
use Rattle.answers.specs.Answers.{Under}
use Rattle.tables.specs.Facts.{CandidatesAre}
use Rattle.tables.specs.Filling.{words_for}
use Rattle.rounds.specs.Resting.{total, test_of, Holds, Frame, Rests, Room}
use Rattle.rounds.specs.tested.Tested.{past_in, Ranged, Todo}
use Rattle.rounds.specs.declared.tested.Sizes.{Sizes}
use Rattle.rounds.specs.declared.tested.Course.{Course}

-- the bindings that are kept and not marked rest on what is noted for them
abbrev pub Settled : List Record → List ℕ → List ℕ → (ℕ → Type 0) → Type 0
Settled rs kept users Is-marked = (b : ℕ) → b < total rs → is_kept (get_or kept b 0) ≡ true → (Is-marked b → ⊥) → Rests rs kept users b

-- what a turn asks of a file
pub record Turnable (t sets firsts : List ℕ) (sizes : Sizes) (kept todo memo users failed : List ℕ) (last : ℕ) (rs : List Record) : Type 0 where
  pub frame : Frame rs t firsts sizes
  pub candidates : CandidatesAre rs kept sets (words_for rs)
  pub room : Room rs users
  pub under : Under memo (last + 1)
  pub long : max_binding_words ≤ length failed
  pub none : (c : ℕ) → In failed 0 c → ⊥
  pub settled : Settled rs kept users (Todo todo)

-- one turn over the marked bindings: those that fail are marked in a set that was empty, all others that are kept rest on their notes
pub record Turns (t sets firsts : List ℕ) (sizes : Sizes) (kept todo memo users failed : List ℕ) (last : ℕ) (memo' users' failed' : List ℕ) (r : Course) : Type 0 where
  pub users_long : length users' ≡ length users
  pub failed_long : length failed' ≡ length failed
  pub under : Under memo (last + 1) → Under memo' (r.last + 1)
  pub before : past_in r.failures ≤ sizes.bindings % row_limit
  pub ranged : (rs : List Record) → Turnable t sets firsts sizes kept todo memo users failed last rs → Ranged failed' r.failures
  pub failures : (rs : List Record) → Turnable t sets firsts sizes kept todo memo users failed last rs → (b : ℕ) → b < total rs → In failed' 0 b → (is_kept (get_or kept b 0) ≡ true) × (Holds rs kept b → ⊥)
  pub settled : (rs : List Record) → Turnable t sets firsts sizes kept todo memo users failed last rs → Settled rs kept users' (In failed' 0)

-- the first n flags say kept
pub record KeepsAll (n : ℕ) (flags flags' : List ℕ) : Type 0 where
  pub long : length flags' ≡ length flags
  pub ones : n ≤ length flags → take n flags' ≡ replicate n 1
  pub stays : drop n flags' ≡ drop n flags

-- r is how many of the first n flags say kept
pub record Counts (flags : List ℕ) (n r : ℕ) : Type 0 where
  pub counted : (bs : List Binding) → length bs ≡ n → n ≤ length flags → r ≡ length (chosen flags bs)

-- what the rounds leave, where there is a flag for each binding: the flags, how many bindings are kept, and how many rounds dropped
-- something; "bytes past the count are untouched"
pub record ShrinksByRounds (t sets firsts : List ℕ) (sizes : Sizes) (memo users flags flags' : List ℕ) (kept rounds : ℕ) : Type 0 where
  pub long : length flags' ≡ length flags
  pub flags_are : (rs : List Record) → Frame rs t firsts sizes → CandidatesAre rs (replicate (total rs) 1) sets (words_for rs) → Room rs users → Under memo 1 → total rs ≤ length flags
      → flags' ≡ kept_flags (test_of rs) (bindings_of rs) ++ drop (total rs) flags
  pub kept_are : (rs : List Record) → Frame rs t firsts sizes → CandidatesAre rs (replicate (total rs) 1) sets (words_for rs) → Room rs users → Under memo 1 → total rs ≤ length flags
      → kept ≡ length (Rounds.kept (test_of rs) (bindings_of rs))
  pub rounds_are : (rs : List Record) → Frame rs t firsts sizes → CandidatesAre rs (replicate (total rs) 1) sets (words_for rs) → Room rs users → Under memo 1 → total rs ≤ length flags
      → rounds ≡ Rounds.rounds (test_of rs) (bindings_of rs)

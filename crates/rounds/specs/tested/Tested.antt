-- What our own crates promise each other; nothing here has to be believed.
-- The test of one binding.
use Rattle.std.specs.Prelude.{ℕ, ◌+◌, ◌*◌, ◌%◌, ◌<◌, ◌≤◌, ◌≡◌, Bool, true, false, Option, None, Some, List, length, get_or, drop}
use Rattle.scheme.specs.Flags.{is_kept}
use Rattle.casefile.specs.Records.{Record}
use Rattle.index.specs.layout.Layout.{row_limit, word_bits, max_binding_words, test_users, test_answers, test_cells}
use Rattle.marks.specs.Marks.{bit_of, In}
use Rattle.marks.specs.briefs.Briefs.{Marked}
use Rattle.answers.specs.Answers.{Under}
use Rattle.tables.specs.Facts.{CandidatesAre}
use Rattle.tables.specs.Filling.{words_for}
use Rattle.rounds.specs.Resting.{total, Holds, Frame, Rests, Room}
use Rattle.rounds.specs.declared.tested.Sizes.{Sizes}
use Rattle.rounds.specs.declared.tested.Failures.{Failures}
use Rattle.rounds.specs.declared.tested.Course.{Course}

-- users and answers begin where they did
pub record Placed (r r' : List ℕ) : Type 0 where
  pub long : length r' ≡ length r
  pub users_at : get_or r' test_users 0 ≡ get_or r test_users 0
  pub answers_at : get_or r' test_answers 0 ≡ get_or r test_answers 0

-- and the sets of candidates are the same
pub record Same (r r' : List ℕ) : Type 0 where
  pub placed : Placed r r'
  pub sets : drop test_cells r' ≡ drop test_cells r

-- the numbers of a test are written, up to those that say where users and answers begin
pub record Writes (test r r' : List ℕ) : Type 0 where
  pub long : length r' ≡ length r
  pub written : (k : ℕ) → k < test_users → get_or r' k 0 ≡ get_or test k 0
  pub stays : (k : ℕ) → test_users ≤ k → get_or r' k 0 ≡ get_or r k 0

-- binding b is marked in what there is to do, a set whose brief stands behind it
abbrev pub Todo : List ℕ → ℕ → Type 0
Todo todo b = Marked todo 0 max_binding_words b

-- notes that grew
abbrev pub Grows : List ℕ → List ℕ → Type 0
Grows users users' = (i k : ℕ) → k < word_bits → bit_of k (get_or users i 0) ≡ 1 → bit_of k (get_or users' i 0) ≡ 1

-- all words are 0
pub record Clears (words words' : List ℕ) : Type 0 where
  pub long : length words' ≡ length words
  pub zeros : (i : ℕ) → get_or words' i 0 ≡ 0

-- r is a number for the next test: the memo has answers of earlier tests alone
pub record Freshens (memo : List ℕ) (last : ℕ) (memo' : List ℕ) (r : ℕ) : Type 0 where
  pub long : length memo' ≡ length memo
  pub some_number : 0 < r
  pub fresh : Under memo (last + 1) → Under memo' r

-- the least that failed, and a given one where none did
abbrev pub least_or : ℕ → Option Failures → ℕ
least_or b None = b
least_or b (Some f) = f.least

-- one more than the greatest that failed, and 0 where none did
abbrev pub past_in : Option Failures → ℕ
past_in None = 0
past_in (Some f) = f.past

-- r is the course after binding b failed in test number `last`
pub record Fails (n : Course) (last b : ℕ) (r : Course) : Type 0 where
  pub last_is : r.last ≡ last
  pub failures_are : r.failures ≡ Some (record { least = least_or b n.failures; past = b % row_limit + 1 })

-- r says whether binding b holds against those that are kept
pub record TestsBinding (t sets firsts : List ℕ) (sizes : Sizes) (memo users : List ℕ) (stamp b : ℕ) (memo' users' : List ℕ) (r : Bool) : Type 0 where
  pub grows : Grows users users'
  pub under : Under memo stamp → Under memo' (stamp + 1)
  pub yes : r ≡ true → (rs : List Record) (kept : List ℕ) → Frame rs t firsts sizes → CandidatesAre rs kept sets (words_for rs) → Room rs users → Under memo stamp → b < total rs → Rests rs kept users' b
  pub no : r ≡ false → (rs : List Record) (kept : List ℕ) → Frame rs t firsts sizes → CandidatesAre rs kept sets (words_for rs) → Room rs users → Under memo stamp → b < total rs → Holds rs kept b → ⊥

-- those that failed are from the least on and before the past, and the least is one of them
pub record Spans (failed : List ℕ) (f : Failures) : Type 0 where
  pub inside : (c : ℕ) → In failed 0 c → (f.least ≤ c) × (c < f.past)
  pub some_failed : In failed 0 f.least

-- these are those that failed, if any did
abbrev pub Ranged : List ℕ → Option Failures → Type 0
Ranged failed None = (c : ℕ) → In failed 0 c → ⊥
Ranged failed (Some f) = Spans failed f

-- after binding b was tested, if it is kept: what it rests on, or that it failed; no other mark is set
pub record Retests (t sets firsts : List ℕ) (sizes : Sizes) (kept memo users failed : List ℕ) (n : Course) (b : ℕ) (memo' users' failed' : List ℕ) (r : Course) : Type 0 where
  pub grows : Grows users users'
  pub more : Grows failed failed'
  pub under : Under memo (n.last + 1) → Under memo' (r.last + 1)
  pub only : (c : ℕ) → In failed' 0 c → (c ≡ b → ⊥) → In failed 0 c
  pub before : past_in n.failures ≤ b → b < row_limit → past_in r.failures ≤ b + 1
  pub ranged : past_in n.failures ≤ b → b < max_binding_words * word_bits → max_binding_words ≤ length failed → Ranged failed n.failures → Ranged failed' r.failures
  pub answer : (rs : List Record) → Frame rs t firsts sizes → CandidatesAre rs kept sets (words_for rs) → Room rs users → Under memo (n.last + 1) → max_binding_words ≤ length failed → b < total rs
      → (is_kept (get_or kept b 0) ≡ true → (In failed' 0 b → ⊥) → Rests rs kept users' b) × (In failed' 0 b → (In failed 0 b → ⊥) → (is_kept (get_or kept b 0) ≡ true) × (Holds rs kept b → ⊥))

-- What our own crates promise each other; nothing here has to be believed.
-- The numbers of a test; the number under which it remembers, and its notes: the owner of what is noted is the binding under test.
use Rattle.std.specs.Prelude.{ℕ, ◌+◌, ◌*◌, ◌/◌, ◌%◌, ◌<◌, ◌≡◌, List, length, get_or}
use Rattle.index.specs.layout.Layout.{max_bindings, word_bits, words_limit, test_own, test_base, test_binding, test_stamp, test_wide, test_words, test_bindings}
use Rattle.marks.specs.Marks.{bit_of}
use Rattle.marks.specs.briefs.Briefs.{Marked}

-- the type of the binding under test as a goal, where the nodes of its body begin, its number, the number of the test, how many cells of
-- answers a node has, how many words a set of bindings has, how many bindings there are
abbrev pub own_in_spec : List ℕ → ℕ
own_in_spec test = get_or test test_own 0

abbrev pub base_in : List ℕ → ℕ
base_in test = get_or test test_base 0

abbrev pub owner_in : List ℕ → ℕ
owner_in test = get_or test test_binding 0

abbrev pub stamp_in : List ℕ → ℕ
stamp_in test = get_or test test_stamp 0

abbrev pub wide_in : List ℕ → ℕ
wide_in test = get_or test test_wide 0

abbrev pub words_in : List ℕ → ℕ
words_in test = get_or test test_words 0 % words_limit

abbrev pub total_in : List ℕ → ℕ
total_in test = get_or test test_bindings 0

-- where the column of binding c begins, the set of those that binding c served; and its brief, behind all columns
abbrev pub column_of : List ℕ → ℕ → ℕ
column_of test c = c % max_bindings * words_in test

abbrev pub brief_of : List ℕ → ℕ → ℕ
brief_of test c = total_in test * words_in test + c % max_bindings

-- binding c is noted for the binding under test
abbrev pub Noted : List ℕ → List ℕ → ℕ → Type 0
Noted users test c = Marked users (column_of test c) (brief_of test c) (owner_in test)

-- binding c is noted, as far as there is room; no note is lost
pub record Notes (users test : List ℕ) (c : ℕ) (after : List ℕ) : Type 0 where
  pub long : length after ≡ length users
  pub grows : (i k : ℕ) → k < word_bits → bit_of k (get_or users i 0) ≡ 1 → bit_of k (get_or after i 0) ≡ 1
  pub noted : owner_in test < word_bits * word_bits → column_of test c + owner_in test / word_bits < length users → brief_of test c < length users → Noted after test c

-- What our own crates promise each other; nothing here has to be believed.
-- What a test remembers of the nodes of a body, as bits.
use Rattle.std.specs.Prelude.{ℕ, ◌+◌, ◌*◌, ◌/◌, ◌%◌, ◌<◌, ◌≤◌, ◌≡◌, ◌⊎◌, Bool, true, false, List, length, get_or, Option, Some}
use Rattle.scheme.specs.Flags.{bit}
use Rattle.index.specs.layout.Layout.{max_nodes, word_bits, cell_words, max_cells}
use Rattle.marks.specs.Marks.{bit_of}
use Rattle.answers.specs.declared.Outlook.{Outlook}

-- where the cell of a node and a goal begins, where each node has `wide` cells
abbrev pub cell_at : ℕ → ℕ → ℕ → ℕ
cell_at wide at goal = (at * wide + goal / word_bits) * cell_words

-- there is a cell for a node and a goal
pub record Covered (wide at goal : ℕ) : Type 0 where
  pub narrow : wide ≤ max_cells
  pub node_in : at < max_nodes
  pub goal_in : goal / word_bits < wide

-- r is where the cell begins, all of it in a memo of a given length; none where there is no such cell
pub record IsCell (long wide at goal : ℕ) (r : Option ℕ) : Type 0 where
  pub cell : (n : ℕ) → r ≡ Some n → Covered wide at goal × (n ≡ cell_at wide at goal) × (n + cell_words ≤ long)

-- the memo has an answer of test number `stamp` for a node and a goal
pub record Says (memo : List ℕ) (wide stamp at goal : ℕ) (b : Bool) : Type 0 where
  pub covered : Covered wide at goal
  pub stamped : get_or memo (cell_at wide at goal) 0 ≡ stamp
  pub known : bit_of (goal % word_bits) (get_or memo (cell_at wide at goal + 1) 0) ≡ 1
  pub answer : bit_of (goal % word_bits) (get_or memo (cell_at wide at goal + 2) 0) ≡ bit b

-- the bits of r are answers of the memo for the goals that stand in one cell with a goal
pub record Looks (memo : List ℕ) (wide stamp at goal : ℕ) (r : Outlook) : Type 0 where
  pub yes : (h : ℕ) → h / word_bits ≡ goal / word_bits → bit_of (h % word_bits) r.had ≡ 1 → Says memo wide stamp at h true
  pub no : (h : ℕ) → h / word_bits ≡ goal / word_bits → bit_of (h % word_bits) r.lacked ≡ 1 → Says memo wide stamp at h false

-- the tests that have answers in the memo have numbers below a bound
abbrev pub Under : List ℕ → ℕ → Type 0
Under memo bound = (i : ℕ) → get_or memo (i * cell_words) 0 < bound

-- answers are entered for goals that stand in one cell with a goal: what the memo has then it had before, or it is one of them
pub record Learns (memo : List ℕ) (wide stamp at goal known had : ℕ) (after : List ℕ) : Type 0 where
  pub long : length after ≡ length memo
  pub told : (s j h : ℕ) (c : Bool) → Says after wide s j h c → Says memo wide s j h c ⊎ ((s ≡ stamp) × (j ≡ at) × (h / word_bits ≡ goal / word_bits) × (bit_of (h % word_bits) known ≡ 1) × (bit_of (h % word_bits) had ≡ bit c))
  pub under : (bound : ℕ) → stamp < bound → Under memo bound → Under after bound

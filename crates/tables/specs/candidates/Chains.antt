-- What our own crates promise each other; nothing here has to be believed.
-- A binding is entered in the set of each goal along its chain: its type with 0, 1, 2, .. arrows off.
use Rattle.std.specs.Prelude.{ℕ, ◌+◌, ◌*◌, ◌/◌, ◌%◌, ◌<◌, ◌≡◌, ◌⊎◌, List, Option, MatchOption, length, get_or}
use Rattle.index.specs.layout.Layout.{word_bits, no_number}
use Rattle.marks.specs.Marks.{bit_of, In}
use Rattle.tables.specs.reading.Cells.{result_of, own_of, off_of}
use Rattle.tables.specs.declared.candidates.Chain.{Chain}

-- the type of a binding with k arrows off
abbrev pub along : List ℕ → ℕ → ℕ → ℕ
along t b k = off_of t k (own_of t b)

-- a chain passes the goal g
pub record Passes (s : Chain) (g : ℕ) (s' : Chain) : Type 0 where
  pub is_goal : g ≡ s.goal
  pub some_goal : g ≡ no_number → ⊥
  pub step : s.steps ≡ s'.steps + 1
  pub next : s'.goal ≡ result_of s.t.now g
  pub small : s'.goal < 65536
  pub table : s'.t.now ≡ s.t.now

-- the next goal of a chain; none where no arrow is left, or no step
abbrev pub StepsOn : Chain → Option ℕ → Chain → Type 0
StepsOn s r s' = MatchOption r ((s.goal ≡ no_number) ⊎ (s.steps ≡ 0)) (λ g. Passes s g s')

-- the chain of a binding
pub record Begins (t : List ℕ) (b : ℕ) (s : Chain) : Type 0 where
  pub table : s.t.now ≡ t
  pub first : s.goal ≡ own_of t b
  pub small : s.goal < 65536
  pub all_steps : s.steps ≡ 256

-- more words than a set has whose bindings a cell can number
abbrev pub widest : ℕ
widest = 4096

-- where the set of a goal begins
abbrev pub set_at : ℕ → ℕ → ℕ
set_at words g = g * (words % widest)

-- bit j of word i stands for binding b in the set of a goal on its chain
pub record OnChain (t : List ℕ) (b words i j : ℕ) : Type 0 where
  pub steps : ℕ
  pub few : steps < 256
  pub some_goal : along t b steps ≡ no_number → ⊥
  pub word : i ≡ set_at words (along t b steps) + b / word_bits
  pub bit : j ≡ b % word_bits

-- the sets after binding b was entered along its chain
pub record Enters (t : List ℕ) (b words : ℕ) (before sets : List ℕ) : Type 0 where
  pub long : length sets ≡ length before
  pub grows : (i j : ℕ) → j < word_bits → bit_of j (get_or before i 0) ≡ 1 → bit_of j (get_or sets i 0) ≡ 1
  pub only : (i j : ℕ) → j < word_bits → bit_of j (get_or sets i 0) ≡ 1 → (bit_of j (get_or before i 0) ≡ 1) ⊎ OnChain t b words i j
  pub put : (k : ℕ) → k < 256 → (along t b k ≡ no_number → ⊥) → set_at words (along t b k) + b / word_bits < length before → In sets (set_at words (along t b k)) b

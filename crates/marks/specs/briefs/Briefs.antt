-- What our own crates promise each other; nothing here has to be believed.
-- Sets with a brief: a word that has bit k where word k of the set may have a number.
use Rattle.std.specs.Prelude.{ℕ, ◌*◌, ◌/◌, ◌<◌, ◌≤◌, ◌≡◌, List, get_or}
use Rattle.index.specs.layout.Layout.{word_bits}
use Rattle.marks.specs.Marks.{bit_of, In}

-- number n is marked: it may be, it is in the set at a place, and its word is in the brief
abbrev pub Marked : List ℕ → ℕ → ℕ → ℕ → Type 0
Marked words at brief n = (n < word_bits * word_bits) × In words at n × (bit_of (n / word_bits) (get_or words brief 0) ≡ 1)

-- no number that is marked is passed on the way from one on to r, which is the end or below it
pub record FindsMarked (words : List ℕ) (at brief from end r : ℕ) : Type 0 where
  pub within : r ≤ end
  pub passed : (n : ℕ) → from ≤ n → n < r → Marked words at brief n → ⊥
  pub found : r < end → from ≤ r

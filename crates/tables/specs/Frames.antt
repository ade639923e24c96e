-- What our own crates promise each other; nothing here has to be believed.
-- A table of which only one part changed; a word with one bit more.
use Rattle.std.specs.Prelude.{ℕ, ◌%◌, ◌<◌, ◌≤◌, ◌≡◌, ◌⊎◌, List, length, get_or}
use Rattle.index.specs.layout.Layout.{word_bits}
use Rattle.marks.specs.Marks.{bit_of}

-- as long as before, and as before but for the cells from lo on, up to hi
pub record Within (lo hi : ℕ) (before after : List ℕ) : Type 0 where
  pub long : length after ≡ length before
  pub outside : (i : ℕ) → (lo ≤ i → i < hi → ⊥) → get_or after i 0 ≡ get_or before i 0

-- a word with bit k put in, counted modulo its bits; one of 16 bits stays one
pub record Adds (w k r : ℕ) : Type 0 where
  pub small : w < 65536 → k < 16 → r < 65536
  pub fits : w < 4294967296 → r < 4294967296
  pub put : k < word_bits → bit_of k r ≡ 1
  pub turned : bit_of (k % word_bits) r ≡ 1
  pub grows : (q : ℕ) → bit_of q w ≡ 1 → bit_of q r ≡ 1
  pub only : k < word_bits → (q : ℕ) → bit_of q r ≡ 1 → (bit_of q w ≡ 1) ⊎ (q ≡ k)

-- What our own crates promise each other; nothing here has to be believed.
-- Sets of goals below 32 as the bits of a word.
use Rattle.std.specs.Prelude.{ℕ, ◌%◌, ◌<◌, ◌≡◌, ◌⊎◌, Bool, true, false}
use Rattle.index.specs.layout.Layout.{word_bits}
use Rattle.marks.specs.Marks.{bit_of}

-- r says whether a word has bit k
pub record HasBit (word k : ℕ) (r : Bool) : Type 0 where
  pub yes : r ≡ true → bit_of (k % word_bits) word ≡ 1
  pub no : r ≡ false → bit_of (k % word_bits) word ≡ 0

-- r is a bit of a word that has one
pub record Lowest (word r : ℕ) : Type 0 where
  pub within : (word ≡ 0 → ⊥) → r < word_bits
  pub has : (word ≡ 0 → ⊥) → bit_of r word ≡ 1

-- bit k is taken out; no other bit changed
pub record TakesOut (word k r : ℕ) : Type 0 where
  pub fewer : (j : ℕ) → bit_of j r ≡ 1 → bit_of j word ≡ 1
  pub stays : k < word_bits → (j : ℕ) → bit_of j word ≡ 1 → (bit_of j r ≡ 1) ⊎ (j ≡ k)
  pub gone : k < word_bits → bit_of k r ≡ 0
  pub less : k < word_bits → bit_of k word ≡ 1 → r < word

-- r has the bits of a word that another has not
pub record Leaves (word other r : ℕ) : Type 0 where
  pub within : (j : ℕ) → bit_of j r ≡ 1 → bit_of j word ≡ 1
  pub all : (j : ℕ) → bit_of j word ≡ 1 → (bit_of j r ≡ 1) ⊎ (bit_of j other ≡ 1)

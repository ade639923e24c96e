-- What our own crates promise each other; nothing here has to be believed.
-- Sets of numbers as the bits of words.
use Rattle.std.specs.Prelude.{ℕ, ◌+◌, ◌/◌, ◌%◌, ◌^◌, ◌<◌, ◌≤◌, ◌≡◌, ◌⊎◌, Bool, true, false, List, length, get_or}
use Rattle.index.specs.layout.Layout.{word_bits}

-- bit k of a number
abbrev pub bit_of : ℕ → ℕ → ℕ
bit_of k n = n / 2 ^ k % 2

-- number n is in the set whose words begin at a place
abbrev pub In : List ℕ → ℕ → ℕ → Type 0
In words at n = bit_of (n % word_bits) (get_or words (at + n / word_bits) 0) ≡ 1

-- r says whether number n is in the set at a place
pub record Decides (words : List ℕ) (at n : ℕ) (r : Bool) : Type 0 where
  pub yes : r ≡ true → In words at n
  pub no : r ≡ false → In words at n → ⊥

-- number n is in the set at a place; no other bit changed
pub record Puts (words : List ℕ) (at n : ℕ) (after : List ℕ) : Type 0 where
  pub long : length after ≡ length words
  pub put : at + n / word_bits < length words → In after at n
  pub grows : (i k : ℕ) → k < word_bits → bit_of k (get_or words i 0) ≡ 1 → bit_of k (get_or after i 0) ≡ 1
  pub only : (i k : ℕ) → k < word_bits → bit_of k (get_or after i 0) ≡ 1 → (bit_of k (get_or words i 0) ≡ 1) ⊎ ((i ≡ at + n / word_bits) × (k ≡ n % word_bits))

-- number n is not in the set at a place; no other bit changed
pub record TakesOut (words : List ℕ) (at n : ℕ) (after : List ℕ) : Type 0 where
  pub long : length after ≡ length words
  pub gone : In after at n → ⊥
  pub fewer : (i k : ℕ) → k < word_bits → bit_of k (get_or after i 0) ≡ 1 → bit_of k (get_or words i 0) ≡ 1
  pub stays : (i k : ℕ) → k < word_bits → bit_of k (get_or words i 0) ≡ 1 → (bit_of k (get_or after i 0) ≡ 1) ⊎ ((i ≡ at + n / word_bits) × (k ≡ n % word_bits))

-- where r is true, no bit is in the words that a search passes at once, from one on
abbrev pub quiet_words : ℕ
quiet_words = 8

abbrev pub Quiet : List ℕ → ℕ → Bool → Type 0
Quiet words i r = r ≡ true → (k : ℕ) → k < quiet_words → get_or words (i + k) 0 ≡ 0

-- r is the least number of the set at a place from one on and below an end, or the end
pub record FindsNext (words : List ℕ) (at from end r : ℕ) : Type 0 where
  pub within : r ≤ end
  pub passed : (n : ℕ) → from ≤ n → n < r → In words at n → ⊥
  pub found : r < end → (from ≤ r) × In words at r

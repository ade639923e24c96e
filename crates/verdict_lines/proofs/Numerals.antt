-- Numerals as the library io spells them: as many digits as the number has, the last of them behind those of a tenth.
use Prim.Native.Nat.{ℕ, zero, suc, ◌-◌, ◌/◌, ◌%◌, ◌^◌, ◌<◌, ◌≤◌}
use mathlib.Core.Path.{◌≡◌, sym, ap, subst, ◌∙◌}
use mathlib.Core.List.{List, [], ◌∷◌, ◌++◌}
use native.Mathlib.Decide.{dec_lt}
use native.Mathlib.Omega.{arith}
use borrow.Author.Tests.{lt-ltb, le-ltb}
use lib.ListN.{length, length-append}
use Rattle.io.specs.Digits.{last_digits, hex_digit_ascii, IsDigitCount}
use Rattle.verdict_lines.specs.Lines.{digit, numeral_within, numeral}

-- a number below 10 has one digit
within_small : (fuel n : ℕ) → n < 10 → numeral_within (suc fuel) n ≡ digit n ∷ []
unfolding numeral_within
within_small fuel n h = rw (lt-ltb n 10 h)

-- any other has one more than its tenth
within_large : (fuel n : ℕ) → 10 ≤ n → numeral_within (suc fuel) n ≡ numeral_within fuel (n / 10) ++ (digit (n % 10) ∷ [])
unfolding numeral_within
within_large fuel n h = rw (le-ltb n 10 h)

-- the digit of a remainder
glyph_digit : (n : ℕ) → hex_digit_ascii (n % 10) ≡ digit (n % 10)
glyph_digit n = rw (lt-ltb (n % 10) 10 (omega arith))

-- with fuel for each digit, those of suc k digits of which the first is no 0
within_digits : (k fuel n : ℕ) → k < fuel → n < 10 ^ suc k → (0 < k → 10 ^ k ≤ n) → numeral_within fuel n ≡ last_digits 10 (suc k) n
within_digits k zero n h lt most = absurd (omega arith)
within_digits zero (suc fuel) n h lt most =
    let small : n < 10 = omega arith in
    let e : n % 10 ≡ n = omega arith in
    within_small fuel n small ∙ ap (λ (m : ℕ). digit m ∷ []) (sym e) ∙ ap (λ (b : ℕ). b ∷ []) (sym (glyph_digit n))
within_digits (suc k) (suc fuel) n h lt most =
    let least = most (omega arith) in
    within_large fuel n (omega arith)
    ∙ ap (λ (l : List ℕ). l ++ (digit (n % 10) ∷ [])) (within_digits k fuel (n / 10) (omega arith) (omega arith) (λ p. omega arith))
    ∙ ap (λ (b : ℕ). last_digits 10 (suc k) (n / 10) ++ (b ∷ [])) (sym (glyph_digit n))

-- a power of 10 is above its exponent
below_power : (k : ℕ) → k < 10 ^ k
below_power zero = omega arith
below_power (suc k) = let ih = below_power k in omega arith

sub_one_suc : (k : ℕ) → suc (suc k) - 1 ≡ suc k
sub_one_suc k = omega arith

-- THE NUMERAL is what io spells with the fewest digits
pub numeral_digits : (k n : ℕ) → IsDigitCount 10 1 n k → last_digits 10 k n ≡ numeral n
unfolding numeral
numeral_digits zero n (least, lt, most) = absurd (omega arith)
numeral_digits (suc zero) n (least, lt, most) = sym (within_digits zero (suc n) n (omega arith) lt (λ p. absurd (omega arith)))
numeral_digits (suc (suc k)) n (least, lt, most) =
    let first = subst (λ (m : ℕ). 10 ^ m ≤ n) (sub_one_suc k) (most (omega arith)) in
    let bound = below_power (suc k) in
    sym (within_digits (suc k) (suc n) n (omega arith) lt (λ p. first))

-- one digit, or one more than its tenth has
within_longer : (k fuel n : ℕ) → length (numeral_within fuel (n / 10)) ≤ k → Dec (n < 10) → length (numeral_within (suc fuel) n) ≤ suc k
within_longer k fuel n h (yes small) = rw (within_small fuel n small) (omega arith)
within_longer k fuel n h (no large) =
    rw (within_large fuel n (omega arith), length-append) (omega arith)

-- a number below 10 ^ suc k has suc k digits at most
within_length : (k fuel n : ℕ) → n < 10 ^ suc k → length (numeral_within fuel n) ≤ suc k
unfolding numeral_within
within_length k zero n h = omega arith
within_length zero (suc fuel) n h = rw (within_small fuel n (omega arith)) (omega arith)
within_length (suc k) (suc fuel) n h = within_longer (suc k) fuel n (within_length k fuel (n / 10) (omega arith)) (dec_lt n 10)

-- a number of 64 bits has 20 digits at most
pub numeral_length : (n : ℕ) → n < 2 ^ 64 → length (numeral n) ≤ 20
unfolding numeral
numeral_length n h = within_length 19 (suc n) n (omega arith)

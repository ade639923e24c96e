-- The bits of a number. Bit 0 is the remainder by 2, and the other bits are those of the half, so a law of all bits is
-- shown for bit 0 and carried from the half to the number.
use Prim.Native.Nat.{ℕ, zero, suc, ◌+◌, ◌-◌, ◌*◌, ◌/◌, ◌%◌, ◌^◌, ◌<◌, ◌≤◌, min, max}
use native.Mathlib.Omega.{arith}
use native.Mathlib.Decide.{dec_lt, ℕ_discrete}
use native.Mathlib.Nat.{pow-succ', div-one, zero-div, div-eq_of_lt, div-div-eq-div-mul}
use mathlib.Core.Path.{◌≡◌, refl, sym, ap, ◌∙◌}
use mathlib.Core.Logic.{◌⊎◌, inl, inr}
use lib.Bits.{bit_and, bit_or, and_step, or_step, and_le_l, and_le_r, or_add_and}
use lib.Count.{count_trailing_zeros, under}
use lib.Pow.{pow_mono, shl_exact, shr-shr}
use Rattle.marks.specs.Marks.{bit_of}

-- the lowest bit, and the others
pub bit_low : (n : ℕ) → bit_of 0 n ≡ n % 2
bit_low n = ap (λ x. x % 2) (div-one n)

pub bit_next : (k n : ℕ) → bit_of (suc k) n ≡ bit_of k (n / 2)
bit_next k n = ap (λ x. n / x % 2) (pow-succ' 2 k) ∙ ap (λ x. x % 2) (sym (div-div-eq-div-mul n 2 (2 ^ k)))

pub bit_small : (k n : ℕ) → bit_of k n ≤ 1
bit_small k n = omega arith

pub bit_two : (k n : ℕ) → (bit_of k n ≡ 0) ⊎ (bit_of k n ≡ 1)
bit_two k n = go (ℕ_discrete (bit_of k n) 0)
  where
    go : Dec (bit_of k n ≡ 0) → (bit_of k n ≡ 0) ⊎ (bit_of k n ≡ 1)
    go (yes e) = inl e
    go (no d) = inr (omega arith)

-- no bit is in 0, and none is above a number's length
pub zero_bit : (k : ℕ) → bit_of k 0 ≡ 0
zero_bit k = ap (λ x. x % 2) (zero-div (2 ^ k))

pub high_bit : (k w n : ℕ) → n < 2 ^ w → w ≤ k → bit_of k n ≡ 0
high_bit k w n h l = let more = pow_mono {i = w} {j = k} l in ap (λ x. x % 2) (div-eq_of_lt {n = n} {m = 2 ^ k} (omega arith))

-- a shift to the right
pub shift_bit : (j k n : ℕ) → bit_of j (n / 2 ^ k) ≡ bit_of (k + j) n
shift_bit j k n = ap (λ x. x % 2) (shr-shr n k j)

-- a number in halves: its remainder and its half
digit : (n h m : ℕ) → n ≡ h * 2 + m → m ≤ 1 → n % 2 ≡ m
digit n h m e l = omega arith

rest : (n h m : ℕ) → n ≡ h * 2 + m → m ≤ 1 → n / 2 ≡ h
rest n h m e l = omega arith

-- both, one of two, the first without the second
pub and_bit : (k a b : ℕ) → bit_of k (bit_and a b) ≡ min (bit_of k a) (bit_of k b)
and_bit zero a b =
    let x = bit_low a in
    let y = bit_low b in
    let s = and_step a b in
    bit_low (bit_and a b) ∙ omega arith
and_bit (suc k) a b =
    let s = and_step a b in
    let half : bit_and a b / 2 ≡ bit_and (a / 2) (b / 2) = omega arith in
    let x = bit_next k a in
    let y = bit_next k b in
    let r = and_bit k (a / 2) (b / 2) in
    bit_next k (bit_and a b) ∙ ap (bit_of k) half ∙ omega arith

pub or_bit : (k a b : ℕ) → bit_of k (bit_or a b) ≡ max (bit_of k a) (bit_of k b)
or_bit zero a b =
    let x = bit_low a in
    let y = bit_low b in
    let s = or_step a b in
    bit_low (bit_or a b) ∙ omega arith
or_bit (suc k) a b =
    let s = or_step a b in
    let half : bit_or a b / 2 ≡ bit_or (a / 2) (b / 2) = omega arith in
    let x = bit_next k a in
    let y = bit_next k b in
    let r = or_bit k (a / 2) (b / 2) in
    bit_next k (bit_or a b) ∙ ap (bit_of k) half ∙ omega arith

-- what two words have together is nothing: neither has anything
pub or_none : (a b : ℕ) → bit_or a b ≡ 0 → (a ≡ 0) × (b ≡ 0)
or_none a b e = let s = or_add_and a b in let l = and_le_l a b in let r = and_le_r a b in (omega arith, omega arith)

-- the difference, in halves and remainders
minus_step : (a b : ℕ) → a - bit_and a b ≡ (a / 2 - bit_and (a / 2) (b / 2)) * 2 + (a % 2 - b % 2)
minus_step a b = go (a / 2) (bit_and (a / 2) (b / 2)) (a % 2) (b % 2) a (bit_and a b) (omega arith) (and_step a b) (and_le_l (a / 2) (b / 2))
  where
    go : (h g x y n m : ℕ) → n ≡ h * 2 + x → m ≡ g * 2 + min x y → g ≤ h → n - m ≡ (h - g) * 2 + (x - y)
    go h g x y n m e f l = let both : h * 2 ≡ (h - g) * 2 + g * 2 = omega arith in omega arith

pub minus_bit : (k a b : ℕ) → bit_of k (a - bit_and a b) ≡ bit_of k a - bit_of k b
minus_bit zero a b =
    let x = bit_low a in
    let y = bit_low b in
    let s = minus_step a b in
    let low : (a - bit_and a b) % 2 ≡ a % 2 - b % 2 = digit (a - bit_and a b) (a / 2 - bit_and (a / 2) (b / 2)) (a % 2 - b % 2) s (omega arith) in
    bit_low (a - bit_and a b) ∙ low ∙ omega arith
minus_bit (suc k) a b =
    let s = minus_step a b in
    let half = rest (a - bit_and a b) (a / 2 - bit_and (a / 2) (b / 2)) (a % 2 - b % 2) s (omega arith) in
    let x = bit_next k a in
    let y = bit_next k b in
    let r = minus_bit k (a / 2) (b / 2) in
    bit_next k (a - bit_and a b) ∙ ap (bit_of k) half ∙ r ∙ omega arith

-- a power of two has one bit
pub power_same : (k : ℕ) → bit_of k (2 ^ k) ≡ 1
power_same zero = refl
power_same (suc k) = let half : 2 ^ suc k / 2 ≡ 2 ^ k = omega arith in bit_next k (2 ^ suc k) ∙ ap (bit_of k) half ∙ power_same k

pub power_other : (k j : ℕ) → (k ≡ j → ⊥) → bit_of k (2 ^ j) ≡ 0
power_other zero zero d = absurd (d refl)
power_other zero (suc j) d = bit_low (2 ^ suc j) ∙ omega arith
power_other (suc k) zero d = bit_next k 1 ∙ zero_bit k
power_other (suc k) (suc j) d = let half : 2 ^ suc j / 2 ≡ 2 ^ j = omega arith in bit_next k (2 ^ suc j) ∙ ap (bit_of k) half ∙ power_other k j (λ e. d (ap suc e))

pub power_bit : (k j : ℕ) → bit_of k (2 ^ j) ≡ 1 → k ≡ j
power_bit k j h = go (ℕ_discrete k j)
  where
    go : Dec (k ≡ j) → k ≡ j
    go (yes e) = e
    go (no d) = let z = power_other k j d in absurd (omega arith)

-- 1 shifted to the left, as a program computes it in a word of 32 bits
abbrev pub shifted : ℕ → ℕ
shifted k = 1 * 2 ^ k % 4294967296

pub shifted_is : (k : ℕ) → k < 32 → shifted k ≡ 2 ^ k
shifted_is k h = let e : shifted k ≡ 1 * 2 ^ k = shl_exact {a = 1} 1 k 32 (omega arith) (omega arith) in e ∙ omega arith

-- a number that is not 0 has a bit
pub some_bit : (w n : ℕ) → n < 2 ^ w → (n ≡ 0 → ⊥) → (k : ℕ) × (k < w) × (bit_of k n ≡ 1)
some_bit zero n h d = absurd (d (omega arith))
some_bit (suc w) n h d = go (λ u v. some_bit w (n / 2) u v) (ℕ_discrete (n % 2) 0)
  where
    go : (n / 2 < 2 ^ w → (n / 2 ≡ 0 → ⊥) → (k : ℕ) × (k < w) × (bit_of k (n / 2) ≡ 1)) → Dec (n % 2 ≡ 0) → (k : ℕ) × (k < suc w) × (bit_of k n ≡ 1)
    go r (no o) = (0, omega arith, bit_low n ∙ omega arith)
    go r (yes e) = let (k, l, b) = r (omega arith) (λ z. d (omega arith)) in (suc k, omega arith, bit_next k n ∙ b)

-- the zeros below the lowest bit, which is the next one
pub zeros_below : (w n j : ℕ) → j < count_trailing_zeros w n → bit_of j n ≡ 0
unfolding count_trailing_zeros
zeros_below zero n j h = absurd (omega arith)
zeros_below (suc w) n j h = go (λ i. zeros_below w (n / 2) i) (n % 2) j refl h
  where
    go : ((i : ℕ) → i < count_trailing_zeros w (n / 2) → bit_of i (n / 2) ≡ 0) → (d i : ℕ) → n % 2 ≡ d → i < under d (count_trailing_zeros w (n / 2)) → bit_of i n ≡ 0
    go r zero zero e h = bit_low n ∙ e
    go r zero (suc i) e h = bit_next i n ∙ r i (omega arith)
    go r (suc d) i e h = absurd (omega arith)

pub zeros_end : (w n : ℕ) → count_trailing_zeros w n < w → bit_of (count_trailing_zeros w n) n ≡ 1
unfolding count_trailing_zeros
zeros_end zero n h = absurd (omega arith)
zeros_end (suc w) n h = go (λ l. zeros_end w (n / 2) l) (n % 2) refl h
  where
    go : (count_trailing_zeros w (n / 2) < w → bit_of (count_trailing_zeros w (n / 2)) (n / 2) ≡ 1) → (d : ℕ) → n % 2 ≡ d → under d (count_trailing_zeros w (n / 2)) < suc w → bit_of (under d (count_trailing_zeros w (n / 2))) n ≡ 1
    go r zero e h = bit_next (count_trailing_zeros w (n / 2)) n ∙ r (omega arith)
    go r (suc d) e h = bit_low n ∙ omega arith

-- of a number with a bit below w, all zeros are below w
pub zeros_few : (w v n : ℕ) → n < 2 ^ w → (n ≡ 0 → ⊥) → count_trailing_zeros v n < w
zeros_few w v n h d = go (some_bit w n h d)
  where
    go : (k : ℕ) × (k < w) × (bit_of k n ≡ 1) → count_trailing_zeros v n < w
    go (k, l, b) = near (dec_lt k (count_trailing_zeros v n))
      where
        near : Dec (k < count_trailing_zeros v n) → count_trailing_zeros v n < w
        near (yes m) = let z = zeros_below v n k m in absurd (omega arith)
        near (no m) = omega arith

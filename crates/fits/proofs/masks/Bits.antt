-- The bits of a number, the lowest first: those of `and` and `or`, of a single bit, and the lowest bit that is set.
use Prim.Native.Nat.{ℕ, zero, suc, ◌+◌, ◌-◌, ◌*◌, ◌/◌, ◌%◌, ◌^◌, ◌<◌, min, max}
use native.Mathlib.Omega.{arith}
use native.Mathlib.Decide.{ℕ_discrete}
use native.Mathlib.Numerals.{add-one}
use mathlib.Core.Path.{◌≡◌, refl, sym, ap, ◌∙◌}
use mathlib.Core.Bool.{Bool, true, false, not, ◌&&◌, ◌||◌, and-true, and_self}
use lib.Arith.{digits_div, digits_mod}
use lib.Bits.{bit_and, bit_or, and_step, or_step, shifted_half, shifted_even}
use lib.Count.{count_trailing_zeros}
use lib.Dec.{eqb, eqb-zero-suc, eqb-suc-zero, eqb-suc-suc}
use lib.Pow.{shl_exact, shr-shr, shr_lt}
use Rattle.fits.specs.masks.Masks.{has}

-- an operation that works on each digit apart
module _ (op f : ℕ → ℕ → ℕ) (g : Bool → Bool → Bool) (step : (a b : ℕ) → op a b ≡ op (a / 2) (b / 2) * 2 + f (a % 2) (b % 2))
    (small : (a b : ℕ) → a < 2 → b < 2 → f a b < 2) (digit : (a b : ℕ) → a < 2 → b < 2 → eqb (f a b) 1 ≡ g (eqb a 1) (eqb b 1)) where
  has_op : (i a b : ℕ) → has (op a b) i ≡ g (has a i) (has b i)
  unfolding has
  has_op zero a b =
      ap (λ x. eqb (x % 2) 1) (step a b) ∙ ap (λ x. eqb x 1) (digits_mod (op (a / 2) (b / 2)) (small (a % 2) (b % 2) (omega arith) (omega arith)))
      ∙ digit (a % 2) (b % 2) (omega arith) (omega arith)
  has_op (suc i) a b =
      ap (λ x. has (x / 2) i) (step a b) ∙ ap (λ x. has x i) (digits_div (op (a / 2) (b / 2)) (small (a % 2) (b % 2) (omega arith) (omega arith))) ∙ has_op i (a / 2) (b / 2)

-- what holds of the four pairs of digits
each_pair : (P : ℕ → ℕ → Type 0) → P 0 0 → P 0 1 → P 1 0 → P 1 1 → (a b : ℕ) → a < 2 → b < 2 → P a b
each_pair P x y z w zero zero h k = x
each_pair P x y z w zero (suc zero) h k = y
each_pair P x y z w (suc zero) zero h k = z
each_pair P x y z w (suc zero) (suc zero) h k = w
each_pair P x y z w (suc (suc a)) b h k = absurd (omega arith)
each_pair P x y z w zero (suc (suc b)) h k = absurd (omega arith)
each_pair P x y z w (suc zero) (suc (suc b)) h k = absurd (omega arith)

pub has_and : (i a b : ℕ) → has (bit_and a b) i ≡ (has a i && has b i)
has_and = has_op bit_and min ◌&&◌ and_step (λ a b h k. omega arith) (each_pair (λ a b. eqb (min a b) 1 ≡ (eqb a 1 && eqb b 1)) refl refl refl refl)

pub has_or : (i a b : ℕ) → has (bit_or a b) i ≡ (has a i || has b i)
has_or = has_op bit_or max ◌||◌ or_step (λ a b h k. omega arith) (each_pair (λ a b. eqb (max a b) 1 ≡ (eqb a 1 || eqb b 1)) refl refl refl refl)

pub has_zero : (i : ℕ) → has 0 i ≡ false
unfolding has
has_zero zero = refl
has_zero (suc i) = has_zero i

-- the word whose only bit is bit j, as the program makes it
abbrev pub one_bit : ℕ → ℕ
one_bit j = (1 * 2 ^ j) % 2 ^ 64

pub has_one : (i j : ℕ) → j < 64 → has (one_bit j) i ≡ eqb i j
unfolding has
has_one i j h = ap (λ x. has x i) (shl_exact {a = 1} 1 j 64 (omega arith) (omega arith)) ∙ go i j
  where
    go : (i j : ℕ) → has (1 * 2 ^ j) i ≡ eqb i j
    go zero zero = refl
    go (suc i) zero = has_zero i ∙ sym (eqb-suc-zero i)
    go zero (suc j) = ap (λ x. eqb x 1) (shifted_even 1 j) ∙ sym (eqb-zero-suc j)
    go (suc i) (suc j) = ap (λ x. has x i) (shifted_half 1 j) ∙ go i j ∙ sym (eqb-suc-suc i j)

-- the bit as the program reads it
pub has_shifted : (i n : ℕ) → eqb (n / 2 ^ i % 2) 1 ≡ has n i
unfolding has
has_shifted zero n = let same : n / 1 ≡ n = omega arith in ap (λ x. eqb (x % 2) 1) same
has_shifted (suc i) n =
    let next : suc i ≡ 1 + i = omega arith in
    ap (λ k. eqb (n / 2 ^ k % 2) 1) next ∙ ap (λ x. eqb (x % 2) 1) (sym (shr-shr n 1 i)) ∙ has_shifted i (n / 2)

-- the lowest bit that is set, and the number without it
pub record Lowest (k n : ℕ) : Type 0 where
  pub below : count_trailing_zeros k n < k
  pub there : has n (count_trailing_zeros k n) ≡ true
  pub gone : (i : ℕ) → (has n i && has (n - 1) i) ≡ (has n i && not (eqb i (count_trailing_zeros k n)))

-- of a number by its lowest digit and the rest
module _ (k n : ℕ) where
  lowest_odd : n % 2 ≡ 1 → Lowest (suc k) n
  unfolding has count_trailing_zeros
  lowest_odd one = record { below = rw one (omega arith); there = rw one (ap (λ x. eqb x 1) one); gone = rw one go }
    where
      go : (i : ℕ) → (has n i && has (n - 1) i) ≡ (has n i && not (eqb i 0))
      go zero = let none : (n - 1) % 2 ≡ 0 = omega arith in ap (λ x. eqb (n % 2) 1 && eqb x 1) none
      go (suc i) =
          let same : (n - 1) / 2 ≡ n / 2 = omega arith in
          ap (λ x. has (n / 2) i && has x i) same ∙ and_self (has (n / 2) i) ∙ sym (and-true (has (n / 2) i)) ∙ ap (λ b. has (n / 2) i && not b) (sym (eqb-suc-zero i))

  lowest_even : n % 2 ≡ 0 → 0 < n → Lowest k (n / 2) → Lowest (suc k) n
  unfolding has count_trailing_zeros
  lowest_even none pos rest = record { below = rw none (let b = rest.below in omega arith); there = rw none rest.there; gone = rw none go }
    where
      go : (i : ℕ) → (has n i && has (n - 1) i) ≡ (has n i && not (eqb i (suc (count_trailing_zeros k (n / 2)))))
      go zero = rw none refl
      go (suc i) =
          let same : (n - 1) / 2 ≡ n / 2 - 1 = omega arith in
          ap (λ x. has (n / 2) i && has x i) same ∙ rest.gone i ∙ ap (λ b. has (n / 2) i && not b) (sym (eqb-suc-suc i (count_trailing_zeros k (n / 2))))

pub lowest : (k n : ℕ) → 0 < n → n < 2 ^ k → Lowest k n
lowest zero n pos h = absurd (omega arith)
lowest (suc k) n pos h = by (ℕ_discrete (n % 2) 1) (λ p. lowest k (n / 2) p (shr_lt k 1 (rw add-one h)))
  where
    by : Dec (n % 2 ≡ 1) → (0 < n / 2 → Lowest k (n / 2)) → Lowest (suc k) n
    by (yes one) rest = lowest_odd k n one
    by (no ne) rest = lowest_even k n (omega arith) pos (rest (omega arith))

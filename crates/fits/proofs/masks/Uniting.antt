-- The union of the entries of a table for the sorts of a word, taken bit by bit.
use Prim.Native.Nat.{ℕ, zero, suc, ◌+◌, ◌-◌, ◌^◌, ◌<◌, ◌≤◌}
use native.Mathlib.Omega.{arith}
use native.Mathlib.Numerals.{add-one}
use mathlib.Core.Path.{◌≡◌, refl, sym, ap, ◌∙◌}
use mathlib.Core.Bool.{Bool, true, false, not, ◌&&◌, ◌||◌, or-false}
use mathlib.Core.List.{List}
use borrow.Author.Tests.{eqb-true}
use lib.Bits.{bit_and, bit_or}
use lib.Count.{count_trailing_zeros}
use lib.Dec.{eqb, eqb-zero-suc, eqb-suc-suc}
use lib.ListN.{get_or}
use Rattle.index.specs.layout.Layout.{max_sorts}
use Rattle.fits.specs.masks.Masks.{has, has_sort, Unites}
use Rattle.fits.proofs.masks.Bits.{has_and, has_or, has_zero, Lowest, lowest}

moved : (a b c : Bool) → (b ≡ true → c ≡ true) → ((a || b) || (c && not b)) ≡ (a || c)
moved true b c h = refl
moved false true c h = sym (h refl)
moved false false true h = refl
moved false false false h = refl

module _ (masks : List ℕ) (m : ℕ) where
  -- what the union lacks still is in the bits that are left
  pub record UnitedTo (out left : ℕ) : Type 0 where
    pub unites : (i n : ℕ) → ((k : ℕ) → k ≤ max_sorts → has (get_or masks k 0) i ≡ eqb n k) → (has out i || has_sort left n) ≡ has_sort m n

  pub united_none : UnitedTo 0 m
  united_none = record { unites = λ i n alone. ap (λ b. b || has_sort m n) (has_zero i) }

  pub united_more : (out left j : ℕ) → UnitedTo out left → 0 < left → left < 2 ^ 64 → j ≡ count_trailing_zeros 64 left → UnitedTo (bit_or out (get_or masks (j + 1) 0)) (bit_and left (left - 1))
  unfolding has_sort
  united_more out left j u pos h e = record {
    unites = λ i n alone.
        ap (λ b. b || has_sort (bit_and left (left - 1)) n) (has_or i out (get_or masks (j + 1) 0) ∙ ap (λ b. has out i || b) (alone (j + 1) (let b = low.below in omega arith)))
        ∙ go (has out i) n ∙ u.unites i n alone;
  }
    where
      low : Lowest 64 left
      low = lowest 64 left pos h

      -- the sort of the bit that is gone is in the union now, and all others stay
      go : (a : Bool) (n : ℕ) → ((a || eqb n (j + 1)) || has_sort (bit_and left (left - 1)) n) ≡ (a || has_sort left n)
      go a zero = rw (add-one j, eqb-zero-suc j) (ap (λ b. b || false) (or-false a))
      go a (suc k) =
          rw (add-one j, eqb-suc-suc k j)
          (ap (λ b. (a || eqb k j) || b) (has_and k left (left - 1) ∙ low.gone k ∙ ap (λ z. has left k && not (eqb k z)) (sym e))
          ∙ moved a (eqb k j) (has left k) (λ f. ap (has left) (eqb-true k j f ∙ e) ∙ low.there))

  pub united_all : (out left : ℕ) → UnitedTo out left → left ≡ 0 → Unites masks m out
  unfolding has_sort
  united_all out left u e i n alone = sym (ap (λ b. has out i || b) (ap (λ l. has_sort l n) e ∙ none n) ∙ or-false (has out i)) ∙ u.unites i n alone
    where
      none : (n : ℕ) → has_sort 0 n ≡ false
      none zero = refl
      none (suc k) = has_zero k

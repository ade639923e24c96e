-- The sorts of an arrow, met member by member.
use Prim.Native.Nat.{ℕ, ◌+◌, ◌<◌, ◌≤◌}
use native.Mathlib.Omega.{arith}
use mathlib.Core.Path.{◌≡◌, sym, ap, ◌∙◌}
use mathlib.Core.Bool.{Bool, ◌&&◌, and-true, and_assoc}
use mathlib.Core.List.{List}
use lib.Bits.{bit_and}
use lib.ListN.{drop}
use Rattle.scheme.specs.Lists.{all}
use Rattle.casefile.specs.Fields.{word}
use Rattle.casefile.specs.Tables.{words}
use Rattle.casefile.proofs.Steps.{words_step, words_done}
use Rattle.fits.specs.masks.Masks.{has, row_in}
use Rattle.fits.specs.declared.masks.Row.{Row}
use Rattle.fits.specs.fits.Filled.{PayloadThere, FitsArrow}
use Rattle.fits.proofs.masks.Bits.{has_and, has_zero}

module _ (file : List ℕ) (place len : ℕ) (fit : List Row) where
  -- the members from a byte on, of a payload, fit the argument of sort i + 1
  abbrev rest_has : List ℕ → ℕ → ℕ → Bool
  rest_has p at i = all (λ m. has (row_in fit m).arguments i) (words (drop at p))

  -- a word together with the members from a byte on decides
  pub record MetTo (r at : ℕ) : Type 0 where
    pub decides : (p : List ℕ) → PayloadThere file place len p → (i : ℕ) → (has r i && rest_has p at i) ≡ (has (row_in fit (word file place)).results i && rest_has p 2 i)

  pub met_none : (r n : ℕ) → n ≡ word file place → r ≡ (row_in fit n).results → MetTo r 2
  met_none r n en er = record { decides = λ p there i. ap (λ x. has x i && rest_has p 2 i) (er ∙ ap (λ k. (row_in fit k).results) en) }

  module _ (r at : ℕ) (met : MetTo r at) where
    pub met_more : (x n next : ℕ) → next ≡ at + 2 → at + 2 ≤ len → n ≡ word file (place + at) → x ≡ (row_in fit n).arguments → MetTo (bit_and r x) next
    unfolding all
    met_more x n next enext h en ex = rw enext (record {
      decides = λ p there i.
          ap (λ b. b && rest_has p (at + 2) i) (has_and i r x) ∙ and_assoc (has r i) (has x i) (rest_has p (at + 2) i)
          ∙ ap (λ b. has r i && b)
          (ap (λ y. has y i && rest_has p (at + 2) i) (ex ∙ ap (λ k. (row_in fit k).arguments) (en ∙ sym (there.word_there at h)))
          ∙ sym (ap (all (λ m. has (row_in fit m).arguments i)) (words_step p at (omega (arith, there.long)))))
          ∙ met.decides p there i;
    })

    -- no sort is left
    pub met_empty : r ≡ 0 → FitsArrow file place len fit 0
    met_empty e p there i = has_zero i ∙ sym (ap (λ b. b && rest_has p at i) (ap (λ x. has x i) e ∙ has_zero i)) ∙ met.decides p there i

    pub met_all : len < at + 2 → FitsArrow file place len fit r
    unfolding all
    met_all h p there i =
        sym (ap (λ ms. has r i && all (λ m. has (row_in fit m).arguments i) ms) (words_done p at (omega (arith, there.long))) ∙ and-true (has r i)) ∙ met.decides p there i

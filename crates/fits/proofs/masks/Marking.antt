-- The sorts with a number, marked sort by sort.
use Prim.Native.Nat.{ℕ, ◌+◌, ◌<◌, ◌≤◌}
use native.Mathlib.Omega.{arith}
use native.Mathlib.Decide.{dec_lt, ℕ_discrete}
use mathlib.Core.Path.{◌≡◌, refl, sym, ap, ap₂, ◌∙◌}
use mathlib.Core.Bool.{Bool, true, false, ◌&&◌, ◌||◌, or-false}
use mathlib.Core.List.{List}
use borrow.Author.Tests.{lt-ltb, le-ltb, eq-eqb, ne_eqb}
use lib.Bits.{bit_or}
use lib.Dec.{eqb, ltb}
use lib.ListN.{length, get_or, set, length-set, length-replicate, get_or-replicate}
use lib.Seq.{get_or-set_same, get_or-set_other}
use Rattle.scheme.proofs.Lists.{and_no}
use Rattle.casefile.specs.Fields.{word}
use Rattle.index.specs.layout.Layout.{max_sorts, all_sorts}
use Rattle.fits.specs.masks.Masks.{has, Empty}
use Rattle.fits.proofs.masks.Bits.{one_bit, has_or, has_zero, has_one}

and_yes : (a b : Bool) → b ≡ true → (a && b) ≡ a
and_yes true b e = e
and_yes false b e = refl

-- what holds below s, and what holds at s, holds below s + 1
next : (w : ℕ → ℕ) (i s n : ℕ) → ((ltb i s && eqb (w i) n) || (eqb i s && eqb (w s) n)) ≡ (ltb i (s + 1) && eqb (w i) n)
next w i s n = by (dec_lt i s) (dec_lt s i)
  where
    by : Dec (i < s) → Dec (s < i) → ((ltb i s && eqb (w i) n) || (eqb i s && eqb (w s) n)) ≡ (ltb i (s + 1) && eqb (w i) n)
    by (yes l) _ = rw (lt-ltb i s l, ne_eqb i s (λ e. omega arith), lt-ltb i (s + 1) (omega arith)) (or-false (eqb (w i) n))
    by (no l) (yes g) = rw (le-ltb i s (omega arith), ne_eqb i s (λ e. omega arith), le-ltb i (s + 1) (omega arith)) refl
    by (no l) (no g) =
        let same : s ≡ i = omega arith in
        rw (le-ltb i s (omega arith), eq-eqb i s (sym same), lt-ltb i (s + 1) (omega arith)) (ap (λ k. eqb (w k) n) same)

module _ (file index : List ℕ) (at : ℕ) where
  -- the number of sort i + 1
  abbrev number_at : ℕ → ℕ
  number_at i = word file (get_or index i 0 + at)

  -- the first s sorts are marked
  pub record MarkedTo (masks : List ℕ) (s : ℕ) : Type 0 where
    pub long : length masks ≡ all_sorts
    pub marks : (n i : ℕ) → n ≤ max_sorts → has (get_or masks n 0) i ≡ (ltb i s && eqb (number_at i) n)

  pub marked_none : (masks : List ℕ) → Empty masks → MarkedTo masks 0
  marked_none masks empty = rw empty (record {
    long = length-replicate {A = ℕ} all_sorts 0;
    marks = λ n i l. rw (get_or-replicate {A = ℕ} all_sorts n 0 0 (omega arith), le-ltb i 0 (omega arith)) (has_zero i);
  })

  module _ (masks : List ℕ) (s place number : ℕ) (marked : MarkedTo masks s) (ep : place ≡ get_or index s 0) (en : number ≡ word file (place + at)) where
    here : number ≡ number_at s
    here = en ∙ ap (λ k. word file (k + at)) ep

    -- an entry for another number
    kept : (n i : ℕ) → n ≤ max_sorts → (n ≡ number → ⊥) → has (get_or masks n 0) i ≡ (ltb i (s + 1) && eqb (number_at i) n)
    kept n i h ne =
        marked.marks n i h
        ∙ sym (ap (λ b. (ltb i s && eqb (number_at i) n) || b) (ap (λ b. eqb i s && b) (ne_eqb (number_at s) n (λ f. ne (sym f ∙ sym here))) ∙ and_no (eqb i s)) ∙ or-false (ltb i s && eqb (number_at i) n))
        ∙ next number_at i s n

    pub marked_past : (masks' : List ℕ) → masks' ≡ masks → max_sorts < number → MarkedTo masks' (s + 1)
    marked_past masks' e l = rw e (record { long = marked.long; marks = λ n i h. kept n i h (λ f. omega arith) })

    pub marked_more : (masks' : List ℕ) → masks' ≡ set masks number (bit_or (get_or masks number 0) (one_bit s)) → s < max_sorts → number ≤ max_sorts → MarkedTo masks' (s + 1)
    marked_more masks' e few l = rw e (record { long = length-set masks number new ∙ marked.long; marks = λ n i h. by n i h (ℕ_discrete n number) })
      where
        new : ℕ
        new = bit_or (get_or masks number 0) (one_bit s)

        by : (n i : ℕ) → n ≤ max_sorts → Dec (n ≡ number) → has (get_or (set masks number (bit_or (get_or masks number 0) (one_bit s))) n 0) i ≡ (ltb i (s + 1) && eqb (number_at i) n)
        by n i h (yes same) =
            ap (λ k. has (get_or (set masks number new) k 0) i) same ∙ ap (λ x. has x i) (get_or-set_same masks number new 0 (omega (arith, marked.long))) ∙ has_or i (get_or masks number 0) (one_bit s)
            ∙ ap₂ ◌||◌ (ap (λ k. has (get_or masks k 0) i) (sym same) ∙ marked.marks n i h)
            (has_one i s few ∙ sym (and_yes (eqb i s) (eqb (number_at s) n) (eq-eqb (number_at s) n (sym here ∙ sym same))))
            ∙ next number_at i s n
        by n i h (no ne) = ap (λ x. has x i) (get_or-set_other masks number n new 0 ne) ∙ kept n i h ne

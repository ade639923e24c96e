-- Rounds over flags, for any test: what a round makes of each flag; flags past the last element are not looked at; a
-- round that keeps as many as before leaves the flags as they are.
use Prim.Native.Nat.{ℕ, zero, suc, ◌<◌, ◌≤◌}
use native.Mathlib.Omega.{arith}
use native.Mathlib.Nat.{le_of_suc-le-suc}
use mathlib.Core.Path.{◌≡◌, refl, ap, ◌∙◌}
use mathlib.Core.Bool.{Bool, true, false, ◌&&◌}
use mathlib.Core.List.{List, [], ◌∷◌}
use lib.ListN.{length, get_or, take}
use Rattle.scheme.specs.Lists.{keep_if}
use Rattle.scheme.specs.Flags.{bit, is_kept, chosen, retested, round_flags, flags_after_rounds}

-- every flag is 0 or 1
abbrev pub Small : List ℕ → Type 0
Small fs = (i : ℕ) → get_or fs i 0 ≤ 1

pub bit_small : (v : Bool) → bit v ≤ 1
unfolding bit
bit_small true = omega arith
bit_small false = omega arith

-- flags past the last element choose nothing
pub chosen_take : {B : Type 0} (fs : List ℕ) (bs : List B) → chosen (take (length bs) fs) bs ≡ chosen fs bs
unfolding chosen
chosen_take [] [] = refl
chosen_take (f ∷ fs) [] = refl
chosen_take [] (b ∷ bs) = refl
chosen_take (f ∷ fs) (b ∷ bs) = ap (keep_if (is_kept f) b) (chosen_take fs bs)

module _ {B : Type 0} (test : List B → B → Bool) where
  module _ (set : List B) where
    retested_take : (fs : List ℕ) (bs : List B) → retested test set (take (length bs) fs) bs ≡ retested test set fs bs
    unfolding retested
    retested_take [] [] = refl
    retested_take (f ∷ fs) [] = refl
    retested_take [] (b ∷ bs) = refl
    retested_take (f ∷ fs) (b ∷ bs) = ap (bit (is_kept f && test set b) ∷◌) (retested_take fs bs)

    pub retested_length : (fs : List ℕ) (bs : List B) → length bs ≤ length fs → length (retested test set fs bs) ≡ length bs
    unfolding retested
    retested_length [] [] h = refl
    retested_length (f ∷ fs) [] h = refl
    retested_length [] (b ∷ bs) h = absurd (omega arith)
    retested_length (f ∷ fs) (b ∷ bs) h = ap suc (retested_length fs bs (le_of_suc-le-suc h))

    pub retested_at : (fs : List ℕ) (bs : List B) (i : ℕ) (d : B) → i < length bs → length bs ≤ length fs → get_or (retested test set fs bs) i 0 ≡ bit (is_kept (get_or fs i 0) && test set (get_or bs i d))
    unfolding retested
    retested_at fs [] i d k h = absurd (omega arith)
    retested_at [] (b ∷ bs) i d k h = absurd (omega arith)
    retested_at (f ∷ fs) (b ∷ bs) zero d k h = refl
    retested_at (f ∷ fs) (b ∷ bs) (suc i) d k h = retested_at fs bs i d (le_of_suc-le-suc k) (le_of_suc-le-suc h)

    retested_small : (fs : List ℕ) (bs : List B) → Small (retested test set fs bs)
    unfolding retested
    retested_small [] bs i = omega arith
    retested_small (f ∷ fs) [] i = omega arith
    retested_small (f ∷ fs) (b ∷ bs) zero = bit_small (is_kept f && test set b)
    retested_small (f ∷ fs) (b ∷ bs) (suc i) = retested_small fs bs i

    retested_fewer : (fs : List ℕ) (bs : List B) → length (chosen (retested test set fs bs) bs) ≤ length (chosen fs bs)
    unfolding retested chosen keep_if is_kept bit
    retested_fewer [] bs = omega arith
    retested_fewer (f ∷ fs) [] = omega arith
    retested_fewer (zero ∷ fs) (b ∷ bs) = retested_fewer fs bs
    retested_fewer (suc f ∷ fs) (b ∷ bs) = go (test set b) (retested_fewer fs bs)
      where
        go : (v : Bool) → length (chosen (retested test set fs bs) bs) ≤ length (chosen fs bs) → length (keep_if (is_kept (bit v)) b (chosen (retested test set fs bs) bs)) ≤ suc (length (chosen fs bs))
        go true h = omega arith
        go false h = omega arith

    retested_same : (fs : List ℕ) (bs : List B) → length fs ≡ length bs → Small fs → length (chosen fs bs) ≤ length (chosen (retested test set fs bs) bs) → retested test set fs bs ≡ fs
    unfolding retested chosen keep_if is_kept bit
    retested_same [] bs e s h = refl
    retested_same (f ∷ fs) [] e s h = absurd (omega arith)
    retested_same (zero ∷ fs) (b ∷ bs) e s h = ap (0 ∷◌) (retested_same fs bs (omega arith) (λ i. s (suc i)) h)
    retested_same (suc zero ∷ fs) (b ∷ bs) e s h = go (test set b) h (retested_same fs bs (omega arith) (λ i. s (suc i))) (retested_fewer fs bs)
      where
        go : (v : Bool) → suc (length (chosen fs bs)) ≤ length (keep_if (is_kept (bit v)) b (chosen (retested test set fs bs) bs))
            → (length (chosen fs bs) ≤ length (chosen (retested test set fs bs) bs) → retested test set fs bs ≡ fs) → length (chosen (retested test set fs bs) bs) ≤ length (chosen fs bs)
            → ◌≡◌ {A = List ℕ} (bit v ∷ retested test set fs bs) (1 ∷ fs)
        go true k ih w = ap (1 ∷◌) (ih (le_of_suc-le-suc k))
        go false k ih w = absurd (omega arith)
    retested_same (suc (suc f) ∷ fs) (b ∷ bs) e s h = absurd (let a = s 0 in omega arith)

  -- a round looks only at the flags of the elements
  pub round_take : (bs : List B) (fs : List ℕ) → round_flags test bs (take (length bs) fs) ≡ round_flags test bs fs
  unfolding round_flags
  round_take bs fs = ap (λ set. retested test set (take (length bs) fs) bs) (chosen_take fs bs) ∙ retested_take (chosen fs bs) fs bs

  pub round_small : (bs : List B) (fs : List ℕ) → Small (round_flags test bs fs)
  unfolding round_flags
  round_small bs fs = retested_small (chosen fs bs) fs bs

  pub round_length : (bs : List B) (fs : List ℕ) → length bs ≤ length fs → length (round_flags test bs fs) ≡ length bs
  unfolding round_flags
  round_length bs fs = retested_length (chosen fs bs) fs bs

  -- the flag of one element after a round
  pub round_at : (bs : List B) (fs : List ℕ) (i : ℕ) (d : B) → i < length bs → length bs ≤ length fs → get_or (round_flags test bs fs) i 0 ≡ bit (is_kept (get_or fs i 0) && test (chosen fs bs) (get_or bs i d))
  unfolding round_flags
  round_at bs fs = retested_at (chosen fs bs) fs bs

  -- a round that drops nothing leaves the flags
  pub round_same : (bs : List B) (fs : List ℕ) → length fs ≡ length bs → Small fs → length (chosen fs bs) ≤ length (chosen (round_flags test bs fs) bs) → round_flags test bs fs ≡ fs
  unfolding round_flags
  round_same bs fs = retested_same (chosen fs bs) fs bs

  -- and so do all after it
  pub after_same : (bs : List B) (n : ℕ) (fs : List ℕ) → round_flags test bs fs ≡ fs → flags_after_rounds test bs n fs ≡ fs
  unfolding flags_after_rounds
  after_same bs zero fs e = refl
  after_same bs (suc n) fs e = ap (flags_after_rounds test bs n) e ∙ after_same bs n fs e

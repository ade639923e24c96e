-- The round that drops an element: a flag once gone stays gone, so it is the one round that the element does not outlive; and an
-- element without such a round is kept.
use Prim.Native.Nat.{ℕ, zero, suc, ◌+◌, ◌<◌}
use native.Mathlib.Omega.{arith}
use native.Mathlib.Nat.{le_of_suc-le-suc, not-suc-le-zero}
use mathlib.Core.Path.{◌≡◌, refl, sym, ap, ◌∙◌}
use mathlib.Core.Logic.{◌⊎◌, inl, inr}
use mathlib.Core.Bool.{Bool, true, false, true≢false}
use mathlib.Core.List.{List, [], ◌∷◌}
use lib.ListN.{length, get_or, replicate, get_or-replicate}
use Rattle.scheme.specs.Lists.{choose◌then◌else◌}
use Rattle.scheme.specs.Rounds.{after}
use Rattle.scheme.specs.Flags.{bit, is_kept, chosen, retested, round_flags, flags_after_rounds, falls_in, round_of, kept_flags}
use Rattle.scheme.proofs.Flags.{chosen_after, chosen_ones}

module _ {B : Type 0} (test : List B → B → Bool) where
  -- a round more at the end
  pub flags_after_last : (bs : List B) (k : ℕ) (fs : List ℕ) → flags_after_rounds test bs (suc k) fs ≡ round_flags test bs (flags_after_rounds test bs k fs)
  unfolding flags_after_rounds
  flags_after_last bs zero fs = refl
  flags_after_last bs (suc k) fs = flags_after_last bs k (round_flags test bs fs)

  -- the flags after some rounds choose the set after as many
  pub chosen_since : (bs : List B) (k : ℕ) → chosen (flags_after_rounds test bs k (replicate (length bs) 1)) bs ≡ after test k bs
  chosen_since bs k = chosen_after test k bs (replicate (length bs) 1) ∙ ap (after test k) (chosen_ones test bs)

  retested_gone : (set : List B) (fs : List ℕ) (bs : List B) (i : ℕ) → is_kept (get_or fs i 0) ≡ false → is_kept (get_or (retested test set fs bs) i 0) ≡ false
  unfolding retested bit is_kept
  retested_gone set [] bs i h = refl
  retested_gone set (f ∷ fs) [] i h = refl
  retested_gone set (f ∷ fs) (b ∷ bs) zero h = rw h refl
  retested_gone set (f ∷ fs) (b ∷ bs) (suc i) h = retested_gone set fs bs i h

  -- a flag once gone stays gone
  pub gone_stays : (bs : List B) (m : ℕ) (fs : List ℕ) (i : ℕ) → is_kept (get_or fs i 0) ≡ false → is_kept (get_or (flags_after_rounds test bs m fs) i 0) ≡ false
  unfolding flags_after_rounds round_flags
  gone_stays bs zero fs i h = h
  gone_stays bs (suc m) fs i h = gone_stays bs m (round_flags test bs fs) i (retested_gone (chosen fs bs) fs bs i h)

  -- and so a flag that is there later was there before
  was_kept : (bs : List B) (m : ℕ) (fs : List ℕ) (i : ℕ) → is_kept (get_or (flags_after_rounds test bs m fs) i 0) ≡ true → is_kept (get_or fs i 0) ≡ true
  was_kept bs m fs i h = go (is_kept (get_or fs i 0)) refl
    where
      go : (v : Bool) → is_kept (get_or fs i 0) ≡ v → v ≡ true
      go true e = refl
      go false e = sym (gone_stays bs m fs i e) ∙ h

  retested_kept : (set : List B) (fs : List ℕ) (bs : List B) (i : ℕ) (d : B) → i < length bs → is_kept (get_or fs i 0) ≡ true → is_kept (get_or (retested test set fs bs) i 0) ≡ test set (get_or bs i d)
  unfolding retested is_kept bit
  retested_kept set [] bs i d l h = absurd (true≢false (sym h))
  retested_kept set (f ∷ fs) [] i d l h = absurd (not-suc-le-zero l)
  retested_kept set (f ∷ fs) (b ∷ bs) zero d l h = rw h (kept_bit (test set b))
    where
      kept_bit : (v : Bool) → is_kept (bit v) ≡ v
      kept_bit true = refl
      kept_bit false = refl
  retested_kept set (f ∷ fs) (b ∷ bs) (suc i) d l h = retested_kept set fs bs i d (le_of_suc-le-suc l) h

  -- an element that is kept after k rounds is kept after one more exactly when it passes against the set as that round began
  pub kept_next : (bs : List B) (k i : ℕ) (d : B) → i < length bs → is_kept (get_or (flags_after_rounds test bs k (replicate (length bs) 1)) i 0) ≡ true
      → is_kept (get_or (flags_after_rounds test bs (suc k) (replicate (length bs) 1)) i 0) ≡ test (after test k bs) (get_or bs i d)
  unfolding round_flags
  kept_next bs k i d l h =
      let fs = flags_after_rounds test bs k (replicate (length bs) 1) in
      ap (λ gs. is_kept (get_or gs i 0)) (flags_after_last bs k (replicate (length bs) 1)) ∙ retested_kept (chosen fs bs) fs bs i d l h ∙ ap (λ set. test set (get_or bs i d)) (chosen_since bs k)

  -- The search among m rounds, of which the first has number n.
  at_round : (bs : List B) (m n k : ℕ) (fs : List ℕ) (i : ℕ) → k < m → is_kept (get_or (flags_after_rounds test bs k fs) i 0) ≡ true
      → is_kept (get_or (flags_after_rounds test bs (suc k) fs) i 0) ≡ false → falls_in test bs m n fs i ≡ n + k
  unfolding falls_in flags_after_rounds
  at_round bs zero n k fs i l h g = absurd (not-suc-le-zero l)
  at_round bs (suc m) n zero fs i l h g = rw g (omega arith)
  at_round bs (suc m) n (suc k) fs i l h g =
      let there = was_kept bs k (round_flags test bs fs) i h in
      let later : falls_in test bs m (suc n) (round_flags test bs fs) i ≡ suc n + k = at_round bs m (suc n) k (round_flags test bs fs) i (le_of_suc-le-suc l) h g in
      rw there (omega arith)

  at_none : (bs : List B) (m n : ℕ) (fs : List ℕ) (i : ℕ) → is_kept (get_or (flags_after_rounds test bs m fs) i 0) ≡ true → falls_in test bs m n fs i ≡ 0
  unfolding falls_in flags_after_rounds
  at_none bs zero n fs i h = refl
  at_none bs (suc m) n fs i h = rw (was_kept bs m (round_flags test bs fs) i h) (at_none bs m (suc n) (round_flags test bs fs) i h)

  -- what the search says: no round, and the flag is there after all of them; or a round that it does not outlive
  Says : List B → ℕ → ℕ → List ℕ → ℕ → ℕ → Type 0
  Says bs m n fs i v =
      ((v ≡ 0) × (is_kept (get_or (flags_after_rounds test bs m fs) i 0) ≡ true))
      ⊎ ((k : ℕ) × (k < m) × (v ≡ n + k) × (is_kept (get_or (flags_after_rounds test bs k fs) i 0) ≡ true) × (is_kept (get_or (flags_after_rounds test bs (suc k) fs) i 0) ≡ false))

  says : (bs : List B) (m n : ℕ) (fs : List ℕ) (i : ℕ) → is_kept (get_or fs i 0) ≡ true → Says bs m n fs i (falls_in test bs m n fs i)
  unfolding Says falls_in flags_after_rounds
  says bs zero n fs i h = inl (refl, h)
  says bs (suc m) n fs i h = go (is_kept (get_or (round_flags test bs fs) i 0)) refl (says bs m (suc n) (round_flags test bs fs) i)
    where
      more : Says bs m (suc n) (round_flags test bs fs) i (falls_in test bs m (suc n) (round_flags test bs fs) i) → Says bs (suc m) n fs i (falls_in test bs m (suc n) (round_flags test bs fs) i)
      more (inl w) = inl w
      more (inr (k, l, e, there, gone)) = inr (suc k, omega arith, omega arith, there, gone)

      go : (v : Bool) → is_kept (get_or (round_flags test bs fs) i 0) ≡ v
          → (is_kept (get_or (round_flags test bs fs) i 0) ≡ true → Says bs m (suc n) (round_flags test bs fs) i (falls_in test bs m (suc n) (round_flags test bs fs) i))
          → Says bs (suc m) n fs i (choose v then falls_in test bs m (suc n) (round_flags test bs fs) i else n)
      go true e ih = more (ih e)
      go false e ih = inr (zero, omega arith, omega arith, h, e)

  -- Of all elements, which start kept.
  -- an element that is kept after k rounds and gone after one more falls in that round
  pub falls_in_law : (bs : List B) (k i : ℕ) → k < length bs → is_kept (get_or (flags_after_rounds test bs k (replicate (length bs) 1)) i 0) ≡ true
      → is_kept (get_or (flags_after_rounds test bs (suc k) (replicate (length bs) 1)) i 0) ≡ false → round_of test bs i ≡ suc k
  unfolding round_of
  falls_in_law bs k i l h g =
      let e : round_of test bs i ≡ 1 + k = at_round bs (length bs) 1 k (replicate (length bs) 1) i l h g in
      omega arith

  -- one that is kept at the end falls in none
  pub falls_never : (bs : List B) (i : ℕ) → is_kept (get_or (kept_flags test bs) i 0) ≡ true → round_of test bs i ≡ 0
  unfolding round_of kept_flags
  falls_never bs i h = at_none bs (length bs) 1 (replicate (length bs) 1) i h

  said : (bs : List B) (i : ℕ) → i < length bs → Says bs (length bs) 1 (replicate (length bs) 1) i (round_of test bs i)
  unfolding round_of is_kept
  said bs i l = says bs (length bs) 1 (replicate (length bs) 1) i (ap is_kept (get_or-replicate (length bs) i 1 0 l))

  -- and back: an element that falls in a round is there before it and gone after it
  pub falls_out : (bs : List B) (i n : ℕ) → i < length bs → round_of test bs i ≡ suc n
      → (is_kept (get_or (flags_after_rounds test bs n (replicate (length bs) 1)) i 0) ≡ true) × (is_kept (get_or (flags_after_rounds test bs (suc n) (replicate (length bs) 1)) i 0) ≡ false)
  unfolding Says
  falls_out bs i n l e = go (said bs i l)
    where
      go : Says bs (length bs) 1 (replicate (length bs) 1) i (round_of test bs i)
          → (is_kept (get_or (flags_after_rounds test bs n (replicate (length bs) 1)) i 0) ≡ true) × (is_kept (get_or (flags_after_rounds test bs (suc n) (replicate (length bs) 1)) i 0) ≡ false)
      go (inl (z, h)) = absurd (omega arith)
      go (inr (k, lk, z, h, g)) =
          let same : k ≡ n = omega arith in
          (rw same at h, rw same at g)

  -- one that falls in none is kept
  pub falls_kept : (bs : List B) (i : ℕ) → i < length bs → round_of test bs i ≡ 0 → is_kept (get_or (kept_flags test bs) i 0) ≡ true
  unfolding Says kept_flags
  falls_kept bs i l e = go (said bs i l)
    where
      go : Says bs (length bs) 1 (replicate (length bs) 1) i (round_of test bs i) → is_kept (get_or (flags_after_rounds test bs (length bs) (replicate (length bs) 1)) i 0) ≡ true
      go (inl (z, h)) = h
      go (inr (k, lk, z, h, g)) = absurd (omega arith)

  -- and one that falls in a round is gone
  pub falls_gone : (bs : List B) (i n : ℕ) → round_of test bs i ≡ suc n → is_kept (get_or (kept_flags test bs) i 0) ≡ false
  falls_gone bs i n e = go (is_kept (get_or (kept_flags test bs) i 0)) refl
    where
      go : (v : Bool) → is_kept (get_or (kept_flags test bs) i 0) ≡ v → v ≡ false
      go true h = absurd (let z = falls_never bs i h in omega arith)
      go false h = refl

  -- it fails the test against the set as that round began
  pub falls_fails : (bs : List B) (i n : ℕ) (d : B) → i < length bs → round_of test bs i ≡ suc n → test (after test n bs) (get_or bs i d) ≡ false
  falls_fails bs i n d l e =
      let (h, g) = falls_out bs i n l e in
      sym (kept_next bs n i d l h) ∙ g

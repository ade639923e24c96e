-- Whole records, and the walk over the records: its three cases, and that its bound on the number of records does not show.
use Prim.Native.Nat.{ℕ, zero, suc, ◌+◌, ◌<◌, ◌≤◌}
use mathlib.Core.Path.{◌≡◌, refl, sym, ap, ◌∙◌}
use mathlib.Core.Bool.{Bool, true, false}
use mathlib.Core.List.{List}
use native.Mathlib.Omega.{arith}
use borrow.Author.Tests.{le-leb, lt-leb, leb-true, leb-false}
use lib.Dec.{leb}
use lib.ListN.{length, drop, length-drop}
use lib.Seq.{length-take-le}
use Rattle.scheme.proofs.Lists.{and_no}
use Rattle.casefile.specs.Fields.{word}
use Rattle.casefile.specs.Records.{whole, end, cut, next, walk, record_at}

module _ (s : List ℕ) (at : ℕ) where
  -- a record is whole where its last byte is inside
  pub whole_fits : at + 4 + word s at ≤ length s → whole s at ≡ true
  unfolding whole
  whole_fits h = simp (le-leb (at + 4) (length s) (omega arith), le-leb (at + 4 + word s at) (length s) h)

  pub whole_cut : length s < at + 4 + word s at → whole s at ≡ false
  unfolding whole
  whole_cut h = rw (lt-leb (at + 4 + word s at) (length s) h) (and_no (leb (at + 4) (length s)))

  whole_last : (b : Bool) → leb (at + 4 + word s at) (length s) ≡ b → whole s at ≡ true → at + 4 + word s at ≤ length s
  whole_last true e w = leb-true (at + 4 + word s at) (length s) e
  whole_last false e w =
      let f : whole s at ≡ false = whole_cut (leb-false (at + 4 + word s at) (length s) e) in
      let z : ◌≡◌ {A = ℕ} 0 1 = cc in
      absurd (omega arith)

  pub whole_end : whole s at ≡ true → at + 4 + word s at ≤ length s
  whole_end w = whole_last (leb (at + 4 + word s at) (length s)) refl w

  -- the payload of a whole record is as long as its header says
  pub payload_length : whole s at ≡ true → length (record_at s at).payload ≡ word s at
  unfolding record_at
  payload_length w =
      let h = whole_end w in
      length-take-le (word s at) (drop (at + 4) s) (rw length-drop (omega arith))

module _ (s : List ℕ) where
  pub walk_end : (n at : ℕ) → length s ≤ at → walk n s at ≡ end
  unfolding walk
  walk_end zero at h = refl
  walk_end (suc n) at h = simp (le-leb (length s) at h)

  pub walk_cut : (n at : ℕ) → at < length s → whole s at ≡ false → walk (suc n) s at ≡ cut at
  unfolding walk
  walk_cut n at h w = simp (lt-leb (length s) at h, w)

  pub walk_next : (n at : ℕ) → at < length s → whole s at ≡ true → walk (suc n) s at ≡ next (record_at s at) (walk n s (at + 4 + word s at))
  unfolding walk
  walk_next n at h w = simp (lt-leb (length s) at h, w)

  step : (n m at : ℕ) → walk n s (at + 4 + word s at) ≡ walk m s (at + 4 + word s at) → (a b : Bool) → leb (length s) at ≡ a → whole s at ≡ b → walk (suc n) s at ≡ walk (suc m) s at
  step n m at ih true b e f = walk_end (suc n) at (leb-true (length s) at e) ∙ sym (walk_end (suc m) at (leb-true (length s) at e))
  step n m at ih false false e f = walk_cut n at (leb-false (length s) at e) f ∙ sym (walk_cut m at (leb-false (length s) at e) f)
  step n m at ih false true e f = walk_next n at (leb-false (length s) at e) f ∙ ap (next (record_at s at)) ih ∙ sym (walk_next m at (leb-false (length s) at e) f)

  -- two bounds that are both enough give the same walk
  pub walk_same : (n m at : ℕ) → length s ≤ at + n → length s ≤ at + m → walk n s at ≡ walk m s at
  walk_same zero m at h k = walk_end zero at (omega arith) ∙ sym (walk_end m at (omega arith))
  walk_same (suc n) zero at h k = walk_end (suc n) at (omega arith) ∙ sym (walk_end zero at (omega arith))
  walk_same (suc n) (suc m) at h k = step n m at (walk_same n m (at + 4 + word s at) (omega arith) (omega arith)) (leb (length s) at) (whole s at) refl refl

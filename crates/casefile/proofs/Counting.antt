-- The records that count, from a place on: the four cases, and what is known of the first.
use Prim.Native.Nat.{ℕ, zero, suc, ◌+◌, ◌<◌, ◌≤◌}
use mathlib.Core.Path.{◌≡◌, refl, sym, ap, subst₂, ◌∙◌}
use mathlib.Core.Bool.{Bool, true, false}
use mathlib.Core.List.{List}
use native.Mathlib.Omega.{arith}
use borrow.Author.Tests.{le-leb, lt-leb, leb-true, leb-false}
use lib.Dec.{leb}
use lib.ListN.{length}
use Rattle.casefile.specs.Fields.{word}
use Rattle.casefile.specs.Records.{Record, Walk, end, cut, next, whole, record_at, walk, is_remark, counting}
use Rattle.casefile.specs.Promises.{records_from}
use Rattle.casefile.proofs.Walk.{walk_end, walk_cut, walk_next, walk_same}

-- which kinds are remarks
pub remark_not : (kind : ℕ) → kind < 0x8000 → is_remark kind ≡ false
unfolding is_remark
remark_not kind h = lt-leb 0x8000 kind h

pub remark_is : (kind : ℕ) → 0x8000 ≤ kind → is_remark kind ≡ true
unfolding is_remark
remark_is kind h = le-leb 0x8000 kind h

-- r is the first record that counts from a place on: a whole record of the file and no remark; w is what counts behind it
pub record First (s : List ℕ) (at : ℕ) (r : Record) (w : Walk) : Type 0 where
  pub onward : at ≤ r.place
  pub inside : r.place < length s
  pub fits : whole s r.place ≡ true
  pub is : r ≡ record_at s r.place
  pub counts : is_remark (word s (r.place + 2)) ≡ false
  pub behind : w ≡ records_from s (r.place + 4 + word s r.place)

module _ (s : List ℕ) where
  -- the bound of the walk, where it is not 0
  bound : (at : ℕ) → at < length s → (n : ℕ) × (length s ≡ suc n)
  bound at h = go (length s) h
    where
      go : (k : ℕ) → at < k → (n : ℕ) × (k ≡ suc n)
      go zero l = absurd (omega arith)
      go (suc n) l = (n, refl)

  stepped : (at : ℕ) → at < length s → whole s at ≡ true → walk (length s) s at ≡ next (record_at s at) (walk (length s) s (at + 4 + word s at))
  stepped at h w =
      let (n, e) = bound at h in
      ap (λ m. walk m s at) e ∙ walk_next s n at h w ∙ ap (next (record_at s at)) (walk_same s n (length s) (at + 4 + word s at) (omega arith) (omega arith))

  -- past the end, a record that is cut, a remark, a record that counts
  pub from_end : (at : ℕ) → length s ≤ at → records_from s at ≡ end
  unfolding counting
  from_end at h = ap counting (walk_end s (length s) at h)

  pub from_cut : (at : ℕ) → at < length s → whole s at ≡ false → records_from s at ≡ cut at
  unfolding counting
  from_cut at h w = let (n, e) = bound at h in ap (λ m. counting (walk m s at)) e ∙ ap counting (walk_cut s n at h w)

  pub from_remark : (at : ℕ) → at < length s → whole s at ≡ true → is_remark (word s (at + 2)) ≡ true → records_from s at ≡ records_from s (at + 4 + word s at)
  unfolding counting record_at
  from_remark at h w e = ap counting (stepped at h w) ∙ rw e refl

  pub from_record : (at : ℕ) → at < length s → whole s at ≡ true → is_remark (word s (at + 2)) ≡ false → records_from s at ≡ next (record_at s at) (records_from s (at + 4 + word s at))
  unfolding counting record_at
  from_record at h w e = ap counting (stepped at h w) ∙ rw e refl

  -- a record that counts, at the place itself
  here : (at : ℕ) → at < length s → whole s at ≡ true → is_remark (word s (at + 2)) ≡ false → First s at (record_at s at) (records_from s (at + 4 + word s at))
  unfolding record_at
  here at h q e = record { onward = omega arith; inside = h; fits = q; is = refl; counts = e; behind = refl }

  -- n is enough for the bytes that are left
  find : (n at : ℕ) → length s ≤ at + n → (r : Record) (w : Walk) → records_from s at ≡ next r w → First s at r w
  find zero at l r w e = absurd (let f = from_end at (omega arith) in let z : ◌≡◌ {A = ℕ} 0 1 = cc in omega arith)
  find (suc n) at l r w e = go (leb (length s) at) (whole s at) (is_remark (word s (at + 2))) refl refl refl (find n (at + 4 + word s at) (omega arith) r w)
    where
      go : (a b c : Bool) → leb (length s) at ≡ a → whole s at ≡ b → is_remark (word s (at + 2)) ≡ c → (records_from s (at + 4 + word s at) ≡ next r w → First s (at + 4 + word s at) r w) → First s at r w
      go true b c p q x ih = absurd (let f = from_end at (leb-true (length s) at p) in let z : ◌≡◌ {A = ℕ} 0 1 = cc in omega arith)
      go false false c p q x ih = absurd (let f = from_cut at (leb-false (length s) at p) q in let z : ◌≡◌ {A = ℕ} 0 1 = cc in omega arith)
      go false true true p q x ih =
          let f = ih (sym (from_remark at (leb-false (length s) at p) q x) ∙ e) in
          record { onward = (let o = f.onward in omega arith); inside = f.inside; fits = f.fits; is = f.is; counts = f.counts; behind = f.behind }
      go false true false p q x ih =
          let f = from_record at (leb-false (length s) at p) q x in
          let same : record_at s at ≡ r = cc in
          let rest : records_from s (at + 4 + word s at) ≡ w = cc in
          subst₂ (First s at) same rest (here at (leb-false (length s) at p) q x)

  pub first_counts : (at : ℕ) (r : Record) (w : Walk) → records_from s at ≡ next r w → First s at r w
  first_counts at r w e = find (length s) at (omega arith) r w e

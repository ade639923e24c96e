-- A file without its remarks says the same, no remark is left in it, no record of it is cut, and it is no longer.
use Prim.Native.Nat.{ℕ, zero, suc, ◌+◌, ◌≤◌}
use mathlib.Core.Path.{◌≡◌, refl, sym, ap, ap₂, subst, ◌∙◌}
use mathlib.Core.Bool.{Bool, true, false}
use mathlib.Core.List.{List, [], ◌∷◌, ◌++◌, map, append-nil, append_assoc}
use native.Mathlib.Nat.{add-zero}
use native.Mathlib.Omega.{arith}
use lib.Dec.{eqb}
use lib.ListN.{length, take, drop, length-drop, length-append}
use lib.Seq.{length-take-le, drop-append-le, drop-append-add, take-add, take_at, drop_at, drop-drop}
use Rattle.scheme.specs.Lists.{select, keep_if}
use Rattle.casefile.specs.Fields.{word}
use Rattle.casefile.specs.Records.{Record, Walk, end, cut, next, whole, record_at, walk, is_remark, counting, records_of, listed}
use Rattle.casefile.specs.Kinds.{Kind, number, of_kind, payloads}
use Rattle.casefile.specs.Remarks.{Content, content_of, told, contents, bytes_at, copied, without_remarks}
use Rattle.casefile.specs.Promises.{records_from}
use Rattle.casefile.proofs.Fields.{field_front, field_behind, field_part}
use Rattle.casefile.proofs.Walk.{whole_fits, whole_end, payload_length, walk_end, walk_next}
use Rattle.casefile.proofs.Counting.{from_end, first_counts}

-- the payloads of a kind, from what the records say
said_of : Kind → List Content → List (List ℕ)
said_of k cs = map (λ (c : Content). c.payload) (select (λ (c : Content). eqb c.kind (number k)) cs)

payloads_said : (k : Kind) (rs : List Record) → payloads k rs ≡ said_of k (map content_of rs)
unfolding payloads of_kind select keep_if said_of content_of
payloads_said k [] = refl
payloads_said k (r ∷ rs) = go (eqb r.kind (number k)) (payloads_said k rs)
  where
    go : (b : Bool) → payloads k rs ≡ said_of k (map content_of rs)
        → map (λ (x : Record). x.payload) (keep_if b r (of_kind k rs)) ≡ map (λ (c : Content). c.payload) (keep_if b (content_of r) (select (λ (c : Content). eqb c.kind (number k)) (map content_of rs)))
    go true ih = ap (λ l. r.payload ∷ l) ih
    go false ih = ih

-- records that say the same have the same payloads of each kind
pub told_payloads : (rs rs' : List Record) → map content_of rs ≡ map content_of rs' → (k : Kind) → payloads k rs ≡ payloads k rs'
told_payloads rs rs' e k = payloads_said k rs ∙ ap (said_of k) e ∙ sym (payloads_said k rs')

-- a walk that comes to the end of the file: no record is cut
pub data Uncut : Walk → Type 0 where
  ended : Uncut end
  further : {r : Record} {w : Walk} → Uncut w → Uncut (next r w)

-- A whole record of a file, copied between other bytes, is the one that the walk over them meets there.
part : List ℕ → ℕ → List ℕ
part s at = take (4 + word s at) (drop at s)

module _ (s : List ℕ) (at : ℕ) (q : whole s at ≡ true) where
  part_length : length (part s at) ≡ 4 + word s at
  unfolding part
  part_length = length-take-le (4 + word s at) (drop at s) (let h = whole_end s at q in rw length-drop (omega arith))

  bytes_part : bytes_at s (record_at s at) ≡ part s at
  unfolding part bytes_at record_at
  bytes_part = ap (λ n. take (4 + n) (drop at s)) (payload_length s at q)

  module _ (before rest : List ℕ) where
    joined : List ℕ
    joined = before ++ (part s at ++ rest)

    joined_length : length joined ≡ length before + (4 + word s at + length rest)
    unfolding joined
    joined_length = let n = part_length in let l = length-append (part s at) rest in let m = length-append before (part s at ++ rest) in omega arith

    word_there : (i : ℕ) → i + 2 ≤ 4 → word joined (length before + i) ≡ word s (at + i)
    unfolding joined part
    word_there i h = field_behind 2 before (part s at ++ rest) i ∙ field_front 2 (part s at) rest i (let n = part_length in omega arith) ∙ field_part 2 s at (4 + word s at) i (omega arith)

    size_there : word joined (length before) ≡ word s at
    size_there = rw (add-zero (length before), add-zero at) at (word_there 0 (omega arith))

    payload_there : take (word s at) (drop 4 (part s at ++ rest)) ≡ take (word s at) (drop (at + 4) s)
    unfolding part
    payload_there =
        let w = word s at in
        let h = whole_end s at q in
        let l = drop at s in
        let payload = take w (drop 4 l) in
        let header_long : length (take 4 l) ≡ 4 = length-take-le 4 l (rw length-drop (omega arith)) in
        let payload_long : length payload ≡ w = length-take-le w (drop 4 l) (rw (length-drop, length-drop) (omega arith)) in
        ap (take w) (drop-append-le 4 (part s at) rest (let n = part_length in omega arith))
        ∙ ap (λ z. take w (z ++ rest)) (ap (drop 4) (take-add 4 w l) ∙ drop_at (take 4 l) payload 4 header_long)
        ∙ take_at payload rest w payload_long
        ∙ ap (take w) (drop-drop 4 at s)

    content_there : content_of (record_at joined (length before)) ≡ content_of (record_at s at)
    unfolding content_of record_at joined
    content_there = ap₂ (λ k p. record { kind = k; payload = p }) (word_there 2 (omega arith)) (ap₂ take size_there (drop-append-add before (part s at ++ rest) 4) ∙ payload_there)

    walk_there : (n : ℕ) → walk (suc n) joined (length before) ≡ next (record_at joined (length before)) (walk n ((before ++ part s at) ++ rest) (length (before ++ part s at)))
    unfolding joined
    walk_there n =
        let l = joined_length in
        let e = size_there in
        let m = length-append before (part s at) in
        let k = part_length in
        walk_next joined n (length before) (omega arith) (whole_fits joined (length before) (omega arith))
        ∙ ap₂ (λ t x. next (record_at joined (length before)) (walk n t x)) (sym (append_assoc before (part s at) rest)) (omega arith)

-- the bytes that records fill: four, and the payload
unfoldable pub bytes_of : List Record → ℕ
bytes_of [] = 0
bytes_of (r ∷ rs) = 4 + length r.payload + bytes_of rs

few_records : (rs : List Record) → length rs ≤ bytes_of rs
unfolding bytes_of
few_records [] = omega arith
few_records (r ∷ rs) = let h = few_records rs in omega arith

-- The records that count.
-- r is a whole record of the file, at a place or behind it, and no remark
record CountsIn (s : List ℕ) (at : ℕ) (r : Record) : Type 0 where
  onward : at ≤ r.place
  fits : whole s r.place ≡ true
  is : r ≡ record_at s r.place
  counted : is_remark r.kind ≡ false

-- such records, each behind the one before
data AllCount (s : List ℕ) : ℕ → List Record → Type 0 where
  nothing : {at : ℕ} → AllCount s at []
  also : {at : ℕ} {r : Record} {rs : List Record} → CountsIn s at r → AllCount s (r.place + 4 + word s r.place) rs → AllCount s at (r ∷ rs)

-- a walk to the end of a file that says what records say and meets no remark
record Copy (rs : List Record) (w : Walk) : Type 0 where
  says : told w ≡ map content_of rs
  uncut : Uncut w
  counted : counting w ≡ w

module _ (s : List ℕ) where
  all_from : (n at : ℕ) → length s ≤ at + n → (w : Walk) → records_from s at ≡ w → AllCount s at (listed w)
  unfolding listed record_at
  all_from n at l end e = nothing
  all_from n at l (cut p) e = nothing
  all_from zero at l (next r w) e = absurd (let f = from_end s at (omega arith) in let z : ◌≡◌ {A = ℕ} 0 1 = cc in omega arith)
  all_from (suc n) at l (next r w) e =
      let f = first_counts s at r w e in
      let k : is_remark r.kind ≡ false = ap (λ (x : Record). is_remark x.kind) f.is ∙ f.counts in
      also (record { onward = f.onward; fits = f.fits; is = f.is; counted = k }) (all_from n (r.place + 4 + word s r.place) (let o = f.onward in omega arith) w (sym f.behind))

  bytes_of_law : {at : ℕ} {r : Record} → CountsIn s at r → bytes_at s r ≡ part s r.place
  bytes_of_law {at} {r} c = ap (bytes_at s) c.is ∙ bytes_part s r.place c.fits

  -- copied behind other bytes, such records are what the walk meets there
  copied_walk : {at : ℕ} {rs : List Record} → AllCount s at rs → (before : List ℕ) (n : ℕ) → length rs ≤ n → Copy rs (walk n (before ++ copied s rs) (length before))
  unfolding copied told listed counting content_of joined
  copied_walk nothing before n h = rw (append-nil, walk_end before n (length before) (omega arith)) (record { says = refl; uncut = ended; counted = refl })
  copied_walk (also c cs) before zero h = absurd (omega arith)
  copied_walk (also {r = r} {rs = rs} c cs) before (suc n) h =
      let ih = copied_walk cs (before ++ part s r.place) n (omega arith) in
      let there = record_at (joined s r.place c.fits before (copied s rs)) (length before) in
      let same : content_of there ≡ content_of r = content_there s r.place c.fits before (copied s rs) ∙ ap content_of (sym c.is) in
      let counts = ap (λ (x : Content). is_remark x.kind) same ∙ c.counted in
      rw (bytes_of_law c, walk_there s r.place c.fits before (copied s rs) n)
      (record {
        says = ap₂ ◌∷◌ same ih.says;
        uncut = further ih.uncut;
        counted = rw counts (ap (next there) ih.counted);
      })

  -- the copies have the bytes of the records, and these are no more than what is left of the file
  copied_length : {at : ℕ} {rs : List Record} → AllCount s at rs → at ≤ length s → (length (copied s rs) ≡ bytes_of rs) × (at + bytes_of rs ≤ length s)
  unfolding copied bytes_of record_at
  copied_length nothing h = (refl, omega arith)
  copied_length (also {r = r} {rs = rs} c cs) h =
      let e = ap length (bytes_of_law c) ∙ part_length s r.place c.fits in
      let p = ap (λ (x : Record). length x.payload) c.is ∙ payload_length s r.place c.fits in
      let l = length-append (bytes_at s r) (copied s rs) in
      let i = copied_length cs (whole_end s r.place c.fits) in
      let o = c.onward in
      (omega arith, omega arith)

  counted_all : AllCount s 0 (listed (records_of s))
  unfolding records_of
  counted_all = all_from (length s) 0 (omega arith) (records_from s 0) refl

  without_walk : Copy (listed (records_of s)) (walk (length (without_remarks s)) (without_remarks s) 0)
  unfolding without_remarks
  without_walk =
      let h = copied_length counted_all (omega arith) in
      let n = few_records (listed (records_of s)) in
      copied_walk counted_all [] (length (copied s (listed (records_of s)))) (omega arith)

  -- all records of the file without its remarks say what the file says: no remark is among them
  pub without_all : told (walk (length (without_remarks s)) (without_remarks s) 0) ≡ contents s
  unfolding contents told
  without_all = without_walk.says

  -- and so do those that count
  pub without_same : contents (without_remarks s) ≡ contents s
  unfolding contents records_of
  without_same = ap told without_walk.counted ∙ without_all

  -- none of them is cut, and there are no more bytes than in the file
  pub without_uncut : Uncut (records_of (without_remarks s))
  unfolding records_of
  without_uncut = subst Uncut (sym without_walk.counted) without_walk.uncut

  pub without_short : length (without_remarks s) ≤ length s
  unfolding without_remarks
  without_short = let h = copied_length counted_all (omega arith) in omega arith

  -- the records of a file that count take no more bytes than it has
  pub records_within : bytes_of (listed (records_of s)) ≤ length s
  records_within = let h = copied_length counted_all (omega arith) in omega arith

-- What reading from a place on tells of the walk over the records.
use Prim.Native.Nat.{ℕ, ◌+◌, ◌<◌, ◌≤◌}
use mathlib.Core.Path.{◌≡◌, refl, sym, ap, ap₂, subst, ◌∙◌}
use mathlib.Core.Bool.{true, false}
use mathlib.Core.List.{List, []}
use native.Mathlib.Omega.{arith}
use borrow.Author.Tests.{le-leb, lt-leb}
use lib.ListN.{length, take, drop}
use Rattle.casefile.specs.Fields.{word}
use Rattle.casefile.specs.Records
use Rattle.casefile.specs.Records.{Walk, end, cut, next, whole, record_at, is_remark}
use Rattle.casefile.specs.Promises.{records_from}
use Rattle.casefile.proofs.Walk.{whole_end, payload_length}
use Rattle.casefile.proofs.Counting.{from_end, from_cut, from_remark, from_record, first_counts}
use Rattle.records.specs.cursor.Reading.{read_record, read_first, read_at, part_of}
use Rattle.records.specs.declared.cursor.Cursor.{Cursor}
use Rattle.records.specs.declared.cursor.Record.{Record}
use Rattle.records.specs.declared.refusal.Refusal.{Refusal}
use Rattle.records.specs.declared.refusal.Fault.TheVariants.{CutOff}
use Rattle.std.specs.Prelude.{Some, None, Ok, Err}

-- what is known of a record that was read from a place on
pub record RecordRead (s : List ℕ) (at : ℕ) (r : Record) : Type 0 where
  pub onward : at ≤ r.place
  pub inside : r.place < length s
  pub fits : whole s r.place ≡ true
  pub start_is : r.start ≡ r.place + 4
  pub kind_is : r.kind ≡ word s (r.place + 2)
  pub next_is : r.next.at ≡ r.place + 4 + word s r.place
  pub next_fits : r.next.at ≤ length s
  pub payload_is : part_of s r.start r.len ≡ (record_at s r.place).payload
  pub walk_is : records_from s at ≡ next (record_at s r.place) (records_from s r.next.at)

-- what is known of a record that was refused
pub record RecordRefused (s : List ℕ) (at : ℕ) (r : Refusal) : Type 0 where
  pub fault_is : r.fault ≡ CutOff
  pub walk_is : records_from s at ≡ cut r.place

-- the parts of a list
module _ (s : List ℕ) (start len : ℕ) where
  pub part_of_law : start + len ≤ length s → part_of s start len ≡ take len (drop start s)
  unfolding part_of
  part_of_law h = simp (le-leb (start + len) (length s) h)

  pub part_out : length s < start + len → part_of s start len ≡ []
  unfolding part_of
  part_out h = simp (lt-leb (start + len) (length s) h)

module _ (s : List ℕ) (at : ℕ) where
  -- the cases of reading: past the end, a record that is cut, a remark, a record that counts
  pub read_past : length s ≤ at → read_at s at ≡ Ok None
  unfolding read_at read_first
  read_past h = ap read_first (from_end s at h)

  pub read_cut : at < length s → whole s at ≡ false → read_at s at ≡ Err (record { fault = CutOff; place = at })
  unfolding read_at read_first
  read_cut h w = ap read_first (from_cut s at h w)

  pub read_remark : at < length s → whole s at ≡ true → is_remark (word s (at + 2)) ≡ true → read_at s at ≡ read_at s (at + 4 + word s at)
  unfolding read_at
  read_remark h w e = ap read_first (from_remark s at h w e)

  pub read_whole : at < length s → whole s at ≡ true → is_remark (word s (at + 2)) ≡ false
      → read_at s at ≡ Ok (Some (record { place = at; start = at + 4; len = word s at; kind = word s (at + 2); next = record { at = at + 4 + word s at } }))
  unfolding read_at read_first record_at
  read_whole h w e =
      ap read_first (from_record s at h w e) ∙ ap (λ n. Ok (Some (record { place = at; start = at + 4; len = n; kind = word s (at + 2); next = record { at = at + 4 + n } }))) (payload_length s at w)

  -- from what was read to the walk
  module _ (got : Record) where
    told : (r : Records.Record) (w : Walk) → records_from s at ≡ next r w → read_record r ≡ Ok (Some got) → RecordRead s at got
    unfolding record_at
    told r w e f =
        let known = first_counts s at r w e in
        let there : r.place ≡ got.place = cc in
        let begins : got.start ≡ r.place + 4 = cc in
        let long : length r.payload ≡ got.len = cc in
        let behind : got.next ≡ record { at = r.place + 4 + length r.payload } = cc in
        let is : r ≡ record_at s got.place = known.is ∙ ap (record_at s) there in
        let fits : whole s got.place ≡ true = subst (λ p. whole s p ≡ true) there known.fits in
        let len_is : got.len ≡ word s got.place = sym long ∙ ap (λ (x : Records.Record). length x.payload) is ∙ payload_length s got.place fits in
        let start_is : got.start ≡ got.place + 4 = begins ∙ ap (λ p. p + 4) there in
        let next_is : got.next.at ≡ got.place + 4 + word s got.place = ap (λ (x : Cursor). x.at) behind ∙ (let a = len_is in omega arith) in
        let behind_is : r.place + 4 + word s r.place ≡ got.next.at = ap (λ p. p + 4 + word s p) there ∙ sym next_is in
        let room = whole_end s got.place fits in
        record {
          onward = (let o = known.onward in omega arith);
          inside = (let i = known.inside in omega arith);
          fits = fits;
          start_is = start_is;
          kind_is = (let k : r.kind ≡ got.kind = cc in sym k ∙ ap (λ (x : Records.Record). x.kind) is);
          next_is = next_is;
          next_fits = omega arith;
          payload_is = rw (start_is, len_is) (part_of_law s (got.place + 4) (word s got.place) room);
          walk_is = e ∙ ap₂ next is (known.behind ∙ ap (records_from s) behind_is);
        }

    pub read_record_law : read_at s at ≡ Ok (Some got) → RecordRead s at got
    unfolding read_at read_first
    read_record_law f = by (records_from s at) refl f
      where
        by : (w : Walk) → records_from s at ≡ w → read_first w ≡ Ok (Some got) → RecordRead s at got
        by end e g = cc
        by (cut p) e g = cc
        by (next r w) e g = told r w e g

  pub read_refused : (r : Refusal) → read_at s at ≡ Err r → RecordRefused s at r
  unfolding read_at read_first
  read_refused r f = by (records_from s at) refl f
    where
      by : (w : Walk) → records_from s at ≡ w → read_first w ≡ Err r → RecordRefused s at r
      by end e g = cc
      by (cut p) e g = record { fault_is = cc; walk_is = cc }
      by (next r w) e g = cc

  pub read_end : read_at s at ≡ Ok None → records_from s at ≡ end
  unfolding read_at read_first
  read_end f = by (records_from s at) refl f
    where
      by : (w : Walk) → records_from s at ≡ w → read_first w ≡ Ok None → records_from s at ≡ end
      by end e g = e
      by (cut p) e g = cc
      by (next r w) e g = cc

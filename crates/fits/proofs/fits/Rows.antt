-- One row of the table: what a type's record and a sort's record make of the rows of the types before.
use Prim.Native.Nat.{ℕ, zero, suc, ◌+◌, ◌-◌, ◌<◌, ◌≤◌}
use native.Mathlib.Omega.{arith}
use native.Mathlib.Decide.{dec_lt}
use native.Mathlib.Nat.{zero-add, add-zero}
use mathlib.Core.Path.{◌≡◌, refl, sym, ap, ap₂, subst, ◌∙◌}
use mathlib.Core.Bool.{false, ◌&&◌}
use mathlib.Core.List.{List, [], ◌∷◌, Memᴰ}
use borrow.Author.Tests.{eq-eqb}
use lib.Dec.{eqb, eqb-suc-zero}
use lib.ListN.{length, get_or, drop}
use Rattle.scheme.specs.Lists.{all}
use Rattle.scheme.specs.Sorts.{Sort, o, ◌⇒◌}
use Rattle.scheme.specs.Types.{Ty, state, arrow, fits, all_fit}
use Rattle.casefile.specs.Fields.{field, byte, word}
use Rattle.casefile.specs.Records.{Record}
use Rattle.casefile.specs.Kinds.{sort, type, payloads}
use Rattle.casefile.specs.Tables.{words, members_at, arrow_from, type_from, types_of, sort_from, sorts_of}
use Rattle.casefile.proofs.Steps.{words_step, words_done}
use Rattle.casefile.proofs.TypeNumbers.{Shape, a_state, an_arrow}
use Rattle.casefile.proofs.TypeTable.{count_payloads, type_shape, type_made}
use Rattle.casefile.proofs.SortTable.{sort_zero, sort_below, sort_made}
use Rattle.records.specs.fields.Promises.{HasLength}
use Rattle.index.specs.layout.Layout.{types_at}
use Rattle.fits.specs.fits.Filled.{fits_at, from_of, to_of, TypesAndSorts}

-- the members of an arrow fit a sort where each number's type does
members_fit : (types : List Ty) (a : Sort) (ms : List ℕ) → all_fit (members_at types ms) a ≡ all (λ m. fits (get_or types m (state 0)) a) ms
unfolding all members_at all_fit
members_fit types a [] = refl
members_fit types a (m ∷ ms) = ap (λ b. fits (get_or types m (state 0)) a && b) (members_fit types a ms)

state_from : (types : List Ty) (p : List ℕ) → length p ≡ 1 → type_from types p ≡ state (byte p 0)
unfolding type_from
state_from types p e = rw (eq-eqb (length p) 1 e) refl

arrow_from_law : (types : List Ty) (p : List ℕ) (r : ℕ) (ms : List ℕ) → eqb (length p) 1 ≡ false → words p ≡ r ∷ ms → type_from types p ≡ arrow (members_at types ms) (get_or types r (state 0))
unfolding type_from arrow_from
arrow_from_law types p r ms e f = rw (e, f) refl

module _ {file index : List ℕ} {types sorts : ℕ} {rs : List Record} (li : TypesAndSorts file index types sorts rs) where
  abbrev type_pay : ℕ → List ℕ
  type_pay t = get_or (payloads type rs) t []

  type_counted : types ≡ length (payloads type rs)
  type_counted = sym li.types_there.counted ∙ count_payloads type rs

  sort_counted : sorts ≡ length (payloads sort rs)
  sort_counted = sym li.sorts_there.counted ∙ count_payloads sort rs

  -- a listed sort goes from one earlier sort to another, by its record, which lies where the index says
  pub record SortThere (i : ℕ) : Type 0 where
    pub is_sort : get_or (sorts_of rs) (suc i) o ≡ (get_or (sorts_of rs) (from_of rs i) o ⇒ get_or (sorts_of rs) (to_of rs i) o)
    pub from_early : from_of rs i ≤ i
    pub to_early : to_of rs i ≤ i
    pub from_there : word file (get_or index i 0 + 0) ≡ from_of rs i
    pub to_there : word file (get_or index i 0 + 2) ≡ to_of rs i

  pub sort_there : (i : ℕ) → i < sorts → SortThere i
  unfolding sort_from
  sort_there i h =
      let hc : i < length (payloads sort rs) = omega (arith, sort_counted) in
      let (four, x, y) = sort_below li.passed li.sort_bytes i hc in
      let here : get_or index i 0 ≡ get_or index (0 + i) 0 = ap (λ k. get_or index k 0) (sym (zero-add i)) in
      record {
        is_sort = sort_made li.passed li.sort_bytes i hc;
        from_early = omega arith;
        to_early = omega arith;
        from_there = ap (λ k. field 2 file (k + 0)) here ∙ li.sorts_there.field_there i h 2 0 (omega arith);
        to_there = ap (λ k. field 2 file (k + 2)) here ∙ li.sorts_there.field_there i h 2 2 (omega arith);
      }

  module _ {t place : ℕ} (h : t < types) (ep : place ≡ get_or index (types_at + t) 0) where
    type_behind : 4 ≤ place
    type_behind = subst (λ k. 4 ≤ k) (sym ep) (li.types_there.behind_header t h)

    made : get_or (types_of rs) t (state 0) ≡ type_from (types_of rs) (type_pay t)
    made = type_made li.passed li.type_bytes t (omega (arith, type_counted))

    pub payload_there : (w at : ℕ) → at + w ≤ length (type_pay t) → field w file (place + at) ≡ field w (type_pay t) at
    payload_there w at l = ap (λ k. field w file (k + at)) ep ∙ li.types_there.field_there t h w at l

    module _ {len : ℕ} (el : HasLength file place len) where
      pub length_is : length (type_pay t) ≡ len
      length_is = let b = type_behind in sym (el.headed b ∙ li.types_there.length_there t (place - 4) h (omega (arith, ep)))

      -- a state fits sort 0 alone
      state_there : len ≡ 1 → get_or (types_of rs) t (state 0) ≡ state (byte (type_pay t) 0)
      state_there one = made ∙ state_from (types_of rs) (type_pay t) (length_is ∙ one)

      pub state_fits : (s : ℕ) → len ≡ 1 → s ≤ sorts → fits_at rs t s ≡ eqb s 0
      unfolding fits
      state_fits zero one l = ap₂ fits (state_there one) (sort_zero rs)
      state_fits (suc i) one l = ap₂ fits (state_there one) (sort_there i (omega arith)).is_sort ∙ sym (eqb-suc-zero i)

      -- an arrow is made of earlier types
      pub record Arrow : Type 0 where
        pub result : ℕ
        pub parts : List ℕ
        pub numbers : words (type_pay t) ≡ result ∷ parts
        pub result_before : result < t
        pub parts_before : (m : ℕ) → Memᴰ m parts → m < t
        pub is_arrow : get_or (types_of rs) t (state 0) ≡ arrow (members_at (types_of rs) parts) (get_or (types_of rs) result (state 0))

      pub arrow_there : (len ≡ 1 → ⊥) → Arrow
      arrow_there ne = by (type_shape li.passed li.type_bytes t (omega (arith, type_counted)))
        where
          by : Shape t (type_pay t) → Arrow
          by (a_state q e) = absurd (ne (sym length_is ∙ ap length e))
          by (an_arrow r ms e f hr hms asc ps) = record { result = r; parts = ms; numbers = f; result_before = hr; parts_before = hms; is_arrow = made ∙ arrow_from_law (types_of rs) (type_pay t) r ms e f }

      -- it does not fit sort 0
      pub arrow_tree : (len ≡ 1 → ⊥) → fits_at rs t 0 ≡ false
      unfolding fits
      arrow_tree ne = ap₂ fits (arrow_there ne).is_arrow (sort_zero rs)

      -- its result is the number at its place, and its members are those from byte 2 on
      pub arrow_numbers : (a : Arrow) → (word file place ≡ a.result) × (words (drop 2 (type_pay t)) ≡ a.parts)
      arrow_numbers a = by (dec_lt len 2)
        where
          by : Dec (len < 2) → (word file place ≡ a.result) × (words (drop 2 (type_pay t)) ≡ a.parts)
          by (yes l) =
              let none = words_done (type_pay t) 0 (omega (arith, length_is)) in
              let some = a.numbers in
              let z : ◌≡◌ {A = ℕ} 0 1 = cc in
              absurd (omega arith)
          by (no l) =
              let step = words_step (type_pay t) 0 (omega (arith, length_is)) in
              let some = a.numbers in
              let there : word file place ≡ word (type_pay t) 0 = ap (field 2 file) (sym (add-zero place)) ∙ payload_there 2 0 (omega (arith, length_is)) in
              (there ∙ (cc), cc)

      -- it fits another sort where its result fits what the sort goes to, and its members what it goes from
      pub arrow_fits : (a : Arrow) (i : ℕ) → i < sorts → fits_at rs t (suc i) ≡ (fits_at rs a.result (to_of rs i) && all (λ m. fits_at rs m (from_of rs i)) a.parts)
      unfolding fits
      arrow_fits a i l =
          ap₂ fits a.is_arrow (sort_there i l).is_sort
          ∙ ap (λ c. fits_at rs a.result (to_of rs i) && c) (members_fit (types_of rs) (get_or (sorts_of rs) (from_of rs i) o) a.parts)

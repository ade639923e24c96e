-- The row of a state and of an arrow, and the table with a row more.
use Prim.Native.Nat.{ℕ, zero, suc, ◌+◌, ◌<◌, ◌≤◌}
use native.Mathlib.Omega.{arith}
use mathlib.Core.Path.{◌≡◌, sym, ap, ap₂, subst, ◌∙◌}
use mathlib.Core.Bool.{◌&&◌}
use mathlib.Core.List.{List, []}
use borrow.Author.Count.{below_more}
use lib.Dec.{eqb, eqb-suc-zero}
use lib.ListN.{length, get_or, set}
use lib.Seq.{get_or-set_same, get_or-set_other}
use Rattle.scheme.specs.Lists.{all}
use Rattle.scheme.proofs.Lists.{all_same}
use Rattle.casefile.specs.Records.{Record}
use Rattle.casefile.specs.Kinds.{type, payloads}
use Rattle.records.specs.fields.Promises.{HasLength}
use Rattle.index.specs.layout.Layout.{types_at}
use Rattle.fits.specs.masks.Masks.{has, has_sort, row_in, Unites}
use Rattle.fits.specs.declared.masks.Row.{Row}
use Rattle.fits.specs.fits.Filled.{fits_at, from_of, to_of, SaysFits, Fitted, TypesAndSorts, PayloadThere, FitsArrow, ReadsRow}
use Rattle.fits.proofs.masks.Bits.{has_zero}
use Rattle.fits.proofs.fits.Rows.{sort_there, payload_there, length_is, state_fits, arrow_there, arrow_tree, arrow_numbers, arrow_fits}

module _ (file index : List ℕ) (froms tos : List ℕ) (t place len : ℕ) (fit : List Row) (ep : place ≡ get_or index (types_at + t) 0) (el : HasLength file place len) where
  -- a state fits sort 0 alone
  pub row_state : len ≡ 1 → ReadsRow file index froms tos t fit (record { sorts = 0; results = get_or tos 0 0; arguments = get_or froms 0 0 })
  row_state one types sorts rs li with-from with-to h rows i l =
      let s = sort_there li i l in
      let hf = s.from_early in
      let ht = s.to_early in
      record {
        sort_right = has_zero i ∙ sym (state_fits li h ep el (suc i) one (omega arith) ∙ eqb-suc-zero i);
        result_right = with-to 0 i (omega arith) l ∙ ap (λ n. eqb n 0) s.to_there ∙ sym (state_fits li h ep el (to_of rs i) one (omega arith));
        argument_right = with-from 0 i (omega arith) l ∙ ap (λ n. eqb n 0) s.from_there ∙ sym (state_fits li h ep el (from_of rs i) one (omega arith));
      }

  -- an arrow
  module _ (ne : len ≡ 1 → ⊥) (a : ℕ) (row : Row) (ea : row.sorts ≡ a) (fa : FitsArrow file place len fit a) (ub : Unites tos a row.results) (uc : Unites froms a row.arguments) where
    module _ {types sorts : ℕ} {rs : List Record} (li : TypesAndSorts file index types sorts rs) (h : t < types) (rows : Fitted fit t sorts rs) where
      payload_here : PayloadThere file place len (get_or (payloads type rs) t [])
      payload_here =
          let long = length_is li h ep el in
          record { long = long; word_there = λ i k. sym (payload_there li h ep 2 i (omega (arith, long))) }

      arrow_right : (i : ℕ) → i < sorts → has a i ≡ fits_at rs t (suc i)
      arrow_right i l =
          let arrow = arrow_there li h ep el ne in
          let (er, em) = arrow_numbers li h ep el arrow in
          fa (get_or (payloads type rs) t []) payload_here i
          ∙ ap₂ (λ n ms. has (row_in fit n).results i && all (λ m. has (row_in fit m).arguments i) ms) er em
          ∙ ap₂ ◌&&◌ (rows arrow.result i arrow.result_before l).result_right
          (all_same (λ m. has (row_in fit m).arguments i) (λ m. fits_at rs m (from_of rs i)) arrow.parts (λ m k. (rows m i (arrow.parts_before m k) l).argument_right))
          ∙ sym (arrow_fits li h ep el arrow i l)

      -- of a sort before, by its number
      named_right : (n : ℕ) → n ≤ sorts → has_sort a n ≡ fits_at rs t n
      unfolding has_sort
      named_right zero l = sym (arrow_tree li h ep el ne)
      named_right (suc i) l = arrow_right i (omega arith)

    pub row_arrow : ReadsRow file index froms tos t fit row
    row_arrow types sorts rs li with-from with-to h rows i l =
        let s = sort_there li i l in
        let hf = s.from_early in
        let ht = s.to_early in
        record {
          sort_right = ap (λ x. has x i) ea ∙ arrow_right li h rows i l;
          result_right = ub i (to_of rs i) (λ k m. with-to k i m l ∙ ap (λ n. eqb n k) s.to_there) ∙ named_right li h rows (to_of rs i) (omega arith);
          argument_right = uc i (from_of rs i) (λ k m. with-from k i m l ∙ ap (λ n. eqb n k) s.from_there) ∙ named_right li h rows (from_of rs i) (omega arith);
        }

-- the table with the row of type t stored
pub fitted_more : (fit : List Row) (t : ℕ) (row : Row) → t < length fit → (sorts : ℕ) (rs : List Record) → Fitted fit t sorts rs → ((i : ℕ) → i < sorts → SaysFits rs t i row)
    → Fitted (set fit t row) (t + 1) sorts rs
fitted_more fit t row long sorts rs rows here = λ u i lu li. below_more (λ u. (i : ℕ) → i < sorts → SaysFits rs u i (row_in (set fit t row) u)) t
    (λ u l i li. subst (SaysFits rs u i) (sym (get_or-set_other fit t u row _ (λ e. omega arith))) (rows u i l li))
    (λ i li. subst (SaysFits rs t i) (sym (get_or-set_same fit t row _ long)) (here i li)) u lu i li

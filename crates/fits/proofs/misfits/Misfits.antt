-- Refusal 11: the fit of a type and of a binding, and the first binding that does not fit.
use Prim.Native.Nat.{ℕ, zero, suc, ◌+◌, ◌-◌, ◌/◌, ◌%◌, ◌^◌, ◌<◌, ◌≤◌}
use native.Mathlib.Decide.{ℕ_discrete}
use native.Mathlib.Omega.{arith}
use native.Mathlib.Nat.{add-zero, le_of_suc-le-suc}
use mathlib.Core.Path.{◌≡◌, refl, sym, ap, ap₂, subst, ◌∙◌}
use mathlib.Core.Bool.{Bool, true, false, not}
use mathlib.Core.List.{List, [], ◌∷◌, map}
use mathlib.Core.Option.{none, some}
use borrow.Author.Tests.{eqb-true, not-false, eq-eqb, ne_eqb}
use borrow.Author.Count.{below_more}
use Rattle.std.specs.Prelude.{Option, Some, None}
use lib.Dec.{eqb}
use lib.ListN.{length, get_or}
use Rattle.scheme.specs.Sorts.{Sort, o}
use Rattle.scheme.specs.Types.{Ty, state, fits}
use Rattle.scheme.proofs.Lists.{get_d_map_in}
use Rattle.casefile.specs.Fields.{field, word}
use Rattle.casefile.specs.Records.{Record}
use Rattle.casefile.specs.Kinds.{nonterminal, binding, of_kind, payloads, count, place_of}
use Rattle.casefile.specs.Tables.{types_of, sorts_of, signatures_of, bindings_of}
use Rattle.casefile.specs.Refusals.{Test, refuse◌at◌when◌, first, wrong_length, misfits}
use Rattle.casefile.proofs.TypeTable.{count_payloads}
use Rattle.records.specs.fields.Promises.{HasLength}
use Rattle.index.specs.layout.Layout.{nonterminals_at, types_at, bindings_at}
use Rattle.fits.specs.masks.Masks.{has, row_in}
use Rattle.fits.specs.declared.masks.Row.{Row}
use Rattle.fits.specs.fits.Filled.{fits_at}
use Rattle.fits.specs.misfits.Misfits.{TestsFit, binding_fits, Offered, FirstMisfit, FindsMisfit}
use Rattle.fits.proofs.masks.Bits.{has_shifted}
use Rattle.fits.proofs.fits.Rows.{state_fits, arrow_tree}

-- What the program looks at says whether type t fits sort s.
module _ (file index : List ℕ) (fit : List Row) (t : ℕ) where
  -- sort 0: where the payload has one byte
  pub tree_tested : (s place len : ℕ) → s ≡ 0 → place ≡ get_or index (types_at + t) 0 → HasLength file place len → TestsFit file index fit t s (eqb len 1)
  tree_tested s place len zeroth ep el types sorts rs listed table h l = by (ℕ_discrete len 1) ∙ ap (fits_at rs t) (sym zeroth)
    where
      by : Dec (len ≡ 1) → eqb len 1 ≡ fits_at rs t 0
      by (yes one) = eq-eqb len 1 one ∙ sym (state_fits listed h ep el 0 one (omega arith))
      by (no ne) = ne_eqb len 1 ne ∙ sym (arrow_tree listed h ep el ne)

  -- a listed sort: by its bit
  pub listed_tested : (s m : ℕ) → (s ≡ 0 → ⊥) → m ≡ (row_in fit t).sorts → TestsFit file index fit t s (eqb (m / 2 ^ (s - 1) % 2) 1)
  listed_tested s m ne em types sorts rs listed table h l =
      has_shifted (s - 1) m ∙ ap (λ x. has x (s - 1)) em ∙ (table t (s - 1) h (omega arith)).sort_right ∙ ap (fits_at rs t) (omega arith)

-- Whether binding i fits: its numbers and its nonterminal's sort, read through the index.
module _ {file index : List ℕ} {fit : List Row} {bindings nonterminals types sorts : ℕ} {rs : List Record} (of : Offered file index fit bindings nonterminals types sorts rs) where
  abbrev pay : ℕ → List ℕ
  pay i = get_or (payloads binding rs) i []

  sort_of_law : (f : ℕ) → f < nonterminals → get_or (signatures_of rs) f o ≡ get_or (sorts_of rs) (word (get_or (payloads nonterminal rs) f []) 0) o
  unfolding signatures_of
  sort_of_law f h =
      get_d_map_in (λ (p : List ℕ). get_or (sorts_of rs) (word p 0) o) (payloads nonterminal rs) f o [] (omega (arith, of.nonterminals_there.counted, count_payloads nonterminal rs))

  module _ (i place f t start s : ℕ) (x : Bool) (h : i < bindings) (ep : place ≡ get_or index (bindings_at + i) 0) (ef : f ≡ word file place) (et : t ≡ word file (place + 2))
      (eq : start ≡ get_or index (nonterminals_at + f) 0) (es : s ≡ word file start) (tests : TestsFit file index fit t s x) where
    binding_tested : x ≡ binding_fits rs (pay i)
    unfolding wrong_length
    binding_tested =
        let four : length (pay i) ≡ 4 = eqb-true (length (pay i)) 4 (not-false (eqb (length (pay i)) 4) (of.bindings_whole i h)) in
        let f_is : f ≡ word (pay i) 0 = ef ∙ ap (field 2 file) (ep ∙ sym (add-zero (get_or index (bindings_at + i) 0))) ∙ of.bindings_there.field_there i h 2 0 (omega arith) in
        let t_is : t ≡ word (pay i) 2 = et ∙ ap (λ k. field 2 file (k + 2)) ep ∙ of.bindings_there.field_there i h 2 2 (omega arith) in
        let hf : f < nonterminals = (let b = of.nonterminals_named i h in omega arith) in
        let ht : t < types = (let b = of.types_named i h in omega arith) in
        let sig = get_or (payloads nonterminal rs) f [] in
        let two : length sig ≡ 2 = eqb-true (length sig) 2 (not-false (eqb (length sig) 2) (of.nonterminals_whole f hf)) in
        let s_is : s ≡ word sig 0 = es ∙ ap (field 2 file) (eq ∙ sym (add-zero (get_or index (nonterminals_at + f) 0))) ∙ of.nonterminals_there.field_there f hf 2 0 (omega arith) in
        let hs : s ≤ sorts = (let b = of.sorts_named f hf in omega arith) in
        tests types sorts rs of.listed of.table ht hs
        ∙ ap₂ (λ (k : ℕ) (z : Sort). fits (get_or (types_of rs) k (state 0)) z) t_is
        (ap (λ k. get_or (sorts_of rs) k o) s_is ∙ sym (sort_of_law f hf) ∙ ap (λ k. get_or (signatures_of rs) k o) f_is)

-- The bindings one after the other.
module _ (file index : List ℕ) (fit : List Row) (bindings : ℕ) where
  -- the bindings before i fit
  abbrev pub FitTo : ℕ → Type 0
  FitTo i =
      (nonterminals types sorts : ℕ) (rs : List Record) → Offered file index fit bindings nonterminals types sorts rs
      → (k : ℕ) → k < i → binding_fits rs (get_or (payloads binding rs) k []) ≡ true

  module _ (i place f t start s : ℕ) (x : Bool) (sofar : FitTo i) (h : i < bindings) (ep : place ≡ get_or index (bindings_at + i) 0) (ef : f ≡ word file place)
      (et : t ≡ word file (place + 2)) (eq : start ≡ get_or index (nonterminals_at + f) 0) (es : s ≡ word file start) (tests : TestsFit file index fit t s x) where
    pub fit_stop : x ≡ false → FindsMisfit file index fit bindings (Some i)
    fit_stop z ns ts ss rs of = record {
      within = λ j e. let same : i ≡ j = cc in omega arith;
      fit_before = λ j e k l. let same : i ≡ j = cc in sofar ns ts ss rs of k (omega arith);
      misfit_there = λ j e.
          let same : i ≡ j = cc in
          subst (λ j. binding_fits rs (get_or (payloads binding rs) j []) ≡ false) same (sym (binding_tested of i place f t start s x h ep ef et eq es tests) ∙ z);
      all_fit = λ e. absurd (cc);
    }

    pub fit_more : x ≡ true → FitTo (i + 1)
    fit_more z ns ts ss rs of =
        below_more (λ k. binding_fits rs (get_or (payloads binding rs) k []) ≡ true) i (sofar ns ts ss rs of) (sym (binding_tested of i place f t start s x h ep ef et eq es tests) ∙ z)

-- The tests of refusal 11, one a binding.
module _ (signatures : List Sort) (types : List Ty) where
  abbrev fitting : List ℕ → Bool
  fitting p = fits (get_or types (word p 2) (state 0)) (get_or signatures (word p 0) o)

  abbrev tests : List Record → List Test
  tests l = misfits signatures (map (λ (p : List ℕ). record { nonterminal = word p 0; type = get_or types (word p 2) (state 0) }) (map (λ (r : Record). r.payload) l)) l

  abbrev payload_at : List Record → ℕ → List ℕ
  payload_at l i = get_or (map (λ (r : Record). r.payload) l) i []

  test_passed : (n p : ℕ) (b : Bool) (ts : List Test) → b ≡ true → first ((refuse n at p when not b) ∷ ts) ≡ first ts
  unfolding first
  test_passed n p b ts e = rw e refl

  test_met : (n p : ℕ) (b : Bool) (ts : List Test) → b ≡ false → first ((refuse n at p when not b) ∷ ts) ≡ some (record { number = n; place = p })
  unfolding first
  test_met n p b ts e = rw e refl

  all_passed : (l : List Record) → ((i : ℕ) → i < length l → fitting (payload_at l i) ≡ true) → first (tests l) ≡ none
  unfolding misfits first
  all_passed [] h = refl
  all_passed (x ∷ l) h = test_passed 11 x.place (fitting x.payload) (tests l) (h 0 (omega arith)) ∙ all_passed l (λ i k. h (suc i) (omega arith))

  first_met : (l : List Record) (r : ℕ) → r < length l → ((i : ℕ) → i < r → fitting (payload_at l i) ≡ true) → fitting (payload_at l r) ≡ false
      → first (tests l) ≡ some (record { number = 11; place = get_or (map (λ (r : Record). r.place) l) r 0 })
  unfolding misfits
  first_met [] r h b e = absurd (omega arith)
  first_met (x ∷ l) zero h b e = test_met 11 x.place (fitting x.payload) (tests l) e
  first_met (x ∷ l) (suc r) h b e =
      test_passed 11 x.place (fitting x.payload) (tests l) (b 0 (omega arith)) ∙ first_met l r (le_of_suc-le-suc h) (λ i k. b (suc i) (omega arith)) e

module _ (rs : List Record) (bindings : ℕ) (r : Option ℕ) (counted : count binding rs ≡ bindings) (answer : FirstMisfit rs bindings r) where
  -- where every binding fits, there is no refusal 11
  pub misfits_none : r ≡ None → first (misfits (signatures_of rs) (bindings_of rs) (of_kind binding rs)) ≡ none
  unfolding bindings_of payloads count
  misfits_none e = all_passed (signatures_of rs) (types_of rs) (of_kind binding rs) (λ i h. answer.all_fit e i (omega arith))

  -- where one does not, it is at the place of the first such binding
  pub misfits_first : (i : ℕ) → r ≡ Some i → first (misfits (signatures_of rs) (bindings_of rs) (of_kind binding rs)) ≡ some (record { number = 11; place = place_of binding rs i })
  unfolding bindings_of payloads count
  misfits_first i e = let h = answer.within i e in first_met (signatures_of rs) (types_of rs) (of_kind binding rs) i (omega arith) (answer.fit_before i e) (answer.misfit_there i e)

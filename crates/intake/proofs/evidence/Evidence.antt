-- The tests of the evidence, 10 to 12, by what the program found.
use Prim.Native.Nat.{ℕ, ◌+◌, ◌<◌, ◌≤◌}
use native.Mathlib.Omega.{arith}
use mathlib.Core.Path.{◌≡◌, refl, sym, ap, ap₂, subst, ◌∙◌}
use mathlib.Core.Bool.{Bool, false, ◌&&◌}
use mathlib.Core.List.{List, [], ◌∷◌}
use mathlib.Core.Option.{none, some}
use borrow.Author.Tests.{lt-ltb, le-ltb}
use Rattle.std.specs.Prelude.{Option, Some, None, Result, Ok, Err}
use lib.Dec.{ltb}
use lib.ListN.{length, get_or}
use Rattle.scheme.proofs.Lists.{and_no}
use Rattle.casefile.specs.Records.{Record}
use Rattle.casefile.specs.Promises.{Bytes, Passed}
use Rattle.casefile.specs.Kinds.{sort, nonterminal, type, binding, path, number, of_kind, payloads, count, place_of}
use Rattle.casefile.specs.Tables.{signatures_of, bindings_of}
use Rattle.casefile.specs.Refusals.{first, misfits}
use Rattle.casefile.proofs.TypeTable.{count_payloads}
use Rattle.index.specs.layout.Layout.{max_sorts, bindings_at}
use Rattle.index.specs.entries.Index.{Indexed}
use Rattle.fits.specs.declared.masks.Row.{Row}
use Rattle.fits.specs.fits.Filled.{TypesAndSorts, Fills}
use Rattle.fits.specs.misfits.Misfits.{FirstMisfit, FindsMisfit}
use Rattle.fits.proofs.misfits.Misfits.{misfits_none, misfits_first}
use Rattle.fits.proofs.misfits.Offers.{offered}
use Rattle.index.specs.entries.Known.{Known}
use Rattle.intake.specs.declared.evidence.Case.TheVariants as is
use Rattle.intake.specs.evidence.Whole.{WholeEnds, WholeTested, FindsFirst}
use Rattle.intake.specs.plan.PlanTests.{PlanFine, PlanEnds, PlanTested}
use Rattle.intake.proofs.plan.Whole.{met_10, met_11, met_12, met_none}
use Rattle.intake.proofs.plan.Contents.{payload_bytes}
use Rattle.records.specs.declared.refusal.Fault.TheVariants.{MixedEvidence, Misfit, FewFlags}
use Rattle.records.specs.declared.refusal.Refusal.{Refusal}

-- the table of fits, then the first binding that does not fit
pub finds_first : (file index : List ℕ) (old fit : List Row) (types sorts bindings : ℕ) (r : Option ℕ) → Bytes file → Fills file index types sorts old fit → FindsMisfit file index fit bindings r
    → types ≤ length old → FindsFirst file index types sorts bindings r
finds_first file index old fit types sorts bindings r bytes fills finds long rs ok ti si bi n ni tf sf bf =
    let listed : TypesAndSorts file index types sorts rs = record { passed = ok; type_bytes = payload_bytes ti bytes; sort_bytes = payload_bytes si bytes; types_there = ti; sorts_there = si; few_types_law = tf; few_sorts = sf } in
    finds n types sorts rs (offered ok fit bi bf ni listed (fills.filled rs listed long))

module _ {file index counts lens : List ℕ} {rs : List Record} (flags : ℕ) (known : Known file index lens counts rs) (ok : Passed rs) (fine : PlanFine rs)
    (types bindings paths : ℕ) (et : types ≡ get_or counts 7 0) (eb : bindings ≡ get_or counts 8 0) (ep : paths ≡ get_or counts 9 0) where
  types_are : count type rs ≡ types
  unfolding number
  types_are = (known.entries type).counted ∙ sym et

  bindings_are : count binding rs ≡ bindings
  unfolding number
  bindings_are = (known.entries binding).counted ∙ sym eb

  paths_are : count path rs ≡ paths
  unfolding number
  paths_are = (known.entries path).counted ∙ sym ep

  abbrev wrong10 : Bool
  wrong10 = ltb 0 (count type rs + count binding rs) && ltb 0 (count path rs)

  pub evidence_10 : 0 < paths → 0 < types + bindings → WholeEnds rs flags (Err (record { fault = MixedEvidence; place = 0 }))
  unfolding WholeEnds
  evidence_10 hp hb =
      met_10 rs flags fine.counts_right fine.start_right fine.bodies_right
      (ap₂ ◌&&◌ (lt-ltb 0 (count type rs + count binding rs) (omega (arith, types_are, bindings_are))) (lt-ltb 0 (count path rs) (omega (arith, paths_are))))

  -- no binding is unfit where there is none
  none_unfit : bindings ≡ 0 → first (misfits (signatures_of rs) (bindings_of rs) (of_kind binding rs)) ≡ none
  none_unfit e = misfits_none rs bindings None bindings_are (record { within = λ i f. absurd (cc); fit_before = λ i f. absurd (cc); misfit_there = λ i f. absurd (cc); all_fit = λ f k h. absurd (omega arith) }) refl

  pub evidence_path : 0 < paths → types + bindings ≤ 0 → WholeEnds rs flags (Ok is.Path)
  unfolding WholeEnds
  evidence_path hp hb = (
    met_none rs flags fine.counts_right fine.start_right fine.bodies_right
        (ap (λ b. b && ltb 0 (count path rs)) (le-ltb 0 (count type rs + count binding rs) (omega (arith, types_are, bindings_are))))
        (none_unfit (omega arith)) (omega (arith, bindings_are)),
    omega (arith, paths_are),
  )

  module _ (hp : paths ≤ 0) where
    no10 : wrong10 ≡ false
    no10 = ap (λ b. ltb 0 (count type rs + count binding rs) && b) (le-ltb 0 (count path rs) (omega (arith, paths_are))) ∙ and_no (ltb 0 (count type rs + count binding rs))

    -- what the program found of the bindings
    module _ (sorts : ℕ) (es : sorts ≡ get_or counts 1 0) (b : Option ℕ) (found : FindsFirst file index types sorts bindings b) where
      first_is : FirstMisfit rs bindings b
      unfolding number
      first_is =
          found rs ok (subst (λ z. Indexed file index type z rs) (sym et) (known.entries type)) (subst (λ z. Indexed file index sort z rs) (sym es) (known.entries sort))
          (subst (λ z. Indexed file index binding z rs) (sym eb) (known.entries binding)) (get_or counts 3 0) (known.entries nonterminal)
          (subst (λ z. z ≤ 1024) (sym et) (known.fits type)) (subst (λ z. z ≤ max_sorts) (sym es) (known.fits sort)) (subst (λ z. z ≤ 1024) (sym eb) (known.fits binding))

      pub evidence_11 : (i : ℕ) → b ≡ Some i → (place : ℕ) → (4 ≤ get_or index (bindings_at + i) 0 → place + 4 ≡ get_or index (bindings_at + i) 0) → WholeEnds rs flags (Err (record { fault = Misfit; place = place }))
      unfolding WholeEnds number
      evidence_11 i is place e =
          let l : i < get_or counts 8 0 = subst (λ z. i < z) eb (first_is.within i is) in
          let there = (known.entries binding).place_there i l in
          let here = e ((known.entries binding).behind_header i l) in
          let same : place_of binding rs i ≡ place = omega arith in
          met_11 rs flags fine.counts_right fine.start_right fine.bodies_right no10 (record { number = 11; place = place })
          (misfits_first rs bindings b bindings_are first_is i is ∙ ap (λ z. some (record { number = 11; place = z })) same)

      unfit_none : b ≡ None → first (misfits (signatures_of rs) (bindings_of rs) (of_kind binding rs)) ≡ none
      unfit_none h = misfits_none rs bindings b bindings_are first_is h

      pub evidence_12 : b ≡ None → flags < bindings → WholeEnds rs flags (Err (record { fault = FewFlags; place = 0 }))
      unfolding WholeEnds
      evidence_12 h f = met_12 rs flags fine.counts_right fine.start_right fine.bodies_right no10 (unfit_none h) (omega (arith, bindings_are))

      pub evidence_none : b ≡ None → bindings ≤ flags → WholeEnds rs flags (Ok is.Bindings)
      unfolding WholeEnds
      evidence_none h f = (
        met_none rs flags fine.counts_right fine.start_right fine.bodies_right no10 (unfit_none h) (omega (arith, bindings_are)),
        empty (payloads path rs) (let a = count_payloads path rs in omega (arith, paths_are)),
      )
        where
          empty : (l : List (List ℕ)) → length l ≡ 0 → l ≡ []
          empty [] e = refl
          empty (x ∷ l) e = absurd (omega arith)

-- From the plan's tests to those of the whole file.
pub whole_refused : (rs : List Record) (flags : ℕ) (ends : List ℕ) (plan : Result Unit Refusal) (r : Refusal) → plan ≡ Err r → PlanTested rs ends plan → WholeTested rs flags ends (Err r)
unfolding PlanEnds WholeEnds
whole_refused rs flags ends plan r e h =
    let k : PlanEnds rs (Err r) = subst (PlanEnds rs) e h.verdict in
    record { verdict = k flags; ends_are = λ f. let x = sym f ∙ k flags in absurd (cc) }

pub plan_is_fine : (rs : List Record) (ends : List ℕ) (plan : Result Unit Refusal) (x : Unit) → plan ≡ Ok x → PlanTested rs ends plan → PlanFine rs
unfolding PlanEnds
plan_is_fine rs ends plan x e h = subst (PlanEnds rs) e h.verdict

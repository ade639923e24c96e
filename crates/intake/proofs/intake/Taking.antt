-- From the walk and the tests over the whole file to the case of the definitions.
use Prim.Native.Nat.{ℕ, ◌<◌, ◌≤◌}
use native.Mathlib.Omega.{arith}
use mathlib.Core.Path.{◌≡◌, refl, sym, ap, ◌∙◌}
use mathlib.Core.List.{List, [], ◌∷◌}
use mathlib.Core.Option.{none}
use borrow.Author.Tests.{lt-ltb, le-ltb}
use Rattle.std.specs.Prelude.{Result, Ok, Err}
use lib.ListN.{length, get_or}
use Rattle.casefile.specs.Records.{Record, records_of, listed}
use Rattle.casefile.specs.Kinds.{Kind, payloads}
use Rattle.casefile.specs.Refusals.{too_long, refuse_whole}
use Rattle.casefile.specs.Cases.{path_case, unless_refused, accepted_case, case_from, case_of}
use Rattle.casefile.proofs.TypeTable.{count_payloads}
use Rattle.rules.specs.reading.RuleBodies.{nodes_in}
use Rattle.rules.proofs.rules.Room.{file_room}
use Rattle.walk.specs.walk.Walking.{AllRead, WalkEnds}
use Rattle.records.specs.declared.refusal.Fault.TheVariants.{TooLong}
use Rattle.records.specs.declared.refusal.Refusal.{Refusal}
use Rattle.intake.specs.declared.evidence.Case.{Case}
use Rattle.intake.specs.declared.evidence.Case.TheVariants as is
use Rattle.intake.specs.intake.Intake.{case_as, Tables, Leaves, RoomFor, CaseFound}
use Rattle.intake.specs.evidence.Whole.{WholeEnds, WholeTested, TestsWhole}
use Rattle.index.specs.layout.Layout.{max_file}

module _ (file : List ℕ) (flags : ℕ) (index lens counts ends : List ℕ) where
  -- 1
  pub taken_long : max_file < length file → CaseFound file flags index lens counts ends (Err (record { fault = TooLong; place = 0 }))
  unfolding case_as Leaves case_of too_long
  taken_long h = record { is_case = sym (simp (lt-ltb max_file (length file) h)); tables = tt }

  module _ (short : length file ≤ max_file) where
    case_is : case_of file flags ≡ case_from flags (records_of file) []
    unfolding case_of too_long
    case_is = simp (le-ltb max_file (length file) short)

    -- 2 to 7
    pub taken_refused : (r : Refusal) (w : Result Unit Refusal) → w ≡ Err r → WalkEnds file index lens counts w → CaseFound file flags index lens counts ends (Err r)
    unfolding WalkEnds case_as Leaves
    taken_refused r w e h = record { is_case = sym (case_is ∙ (let k : WalkEnds file index lens counts (Err r) = rw e at h in k flags)); tables = tt }

    -- 8 to 12, or none
    pub taken_whole : (x : Unit) (w : Result Unit Refusal) → w ≡ Ok x → WalkEnds file index lens counts w → (before : List ℕ) → RoomFor (length file) (length before) → (r : Result Case Refusal) → TestsWhole file index counts flags before ends r → CaseFound file flags index lens counts ends r
    unfolding WalkEnds WholeEnds case_as Leaves unless_refused accepted_case
    taken_whole x w e h before room r tests = by r tested.verdict
      where
        all : AllRead file index lens counts
        all = rw e at h

        rs : List Record
        rs = listed (records_of file)

        tested : WholeTested rs flags ends r
        tested =
            let least = file_room file all.passed in
            tests lens rs all.known all.passed (room.nodes short (nodes_in (payloads Kind.rule rs)) (omega arith))

        tables : refuse_whole rs flags ≡ none → Tables file index lens counts ends
        tables f = record { passed = all.passed; known = all.known; ends_are = tested.ends_are f }

        by : (r : Result Case Refusal) → WholeEnds (listed (records_of file)) flags r → CaseFound file flags index lens counts ends r
        by (Err x) f = record { is_case = sym (case_is ∙ all.left flags ∙ ap (λ z. unless_refused z (accepted_case rs (payloads Kind.path rs))) f); tables = tt }
        by (Ok is.Bindings) (f, g) = record { is_case = sym (case_is ∙ all.left flags ∙ ap (λ z. unless_refused z (accepted_case rs (payloads Kind.path rs))) f ∙ ap (accepted_case rs) g); tables = tables f }
        by (Ok is.Path) (f, g) = record { is_case = sym (case_is ∙ all.left flags ∙ ap (λ z. unless_refused z (accepted_case rs (payloads Kind.path rs))) f ∙ first_path (payloads Kind.path rs) (let a = count_payloads Kind.path rs in omega arith)); tables = (tables f, g) }
          where
            first_path : (l : List (List ℕ)) → 0 < length l → accepted_case rs l ≡ path_case rs (get_or l 0 [])
            first_path [] h = absurd (omega arith)
            first_path (x ∷ l) h = refl

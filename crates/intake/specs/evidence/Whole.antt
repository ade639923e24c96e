-- What our own crates promise each other; nothing here has to be believed.
-- What the tests over the whole file give, 8 to 12, for records that all passed.
use Rattle.std.specs.Prelude.{ℕ, ◌<◌, ◌≤◌, ◌≡◌, Option, Result, Ok, Err, List, [], length}
use Rattle.std.proofs.Math.Option.{none, some}
use Rattle.casefile.specs.Records.{Record}
use Rattle.casefile.specs.Kinds.{Kind, payloads, count}
use Rattle.casefile.specs.Refusals.{refuse_whole}
use Rattle.index.specs.layout.Layout.{max_sorts, max_types, max_bindings}
use Rattle.index.specs.entries.Index.{Indexed}
use Rattle.fits.specs.misfits.Misfits.{FirstMisfit}
use Rattle.rules.specs.reading.RuleBodies.{nodes_in}
use Rattle.casefile.specs.Promises.{Passed}
use Rattle.index.specs.entries.Known.{Known}
use Rattle.intake.specs.declared.evidence.Case.{Case}
use Rattle.intake.specs.declared.evidence.Case.TheVariants.{Bindings, Path}
use Rattle.records.specs.declared.refusal.Refusal.{Refusal}
use Rattle.records.specs.refusal.Numbers.{refusal_as}
use Rattle.intake.specs.plan.PlanTests.{PlanFine, EndsAre}

-- the answer of the tests over the whole file, 8 to 12, for records that all passed
unfoldable pub WholeEnds : List Record → ℕ → Result Case Refusal → Type 0
WholeEnds rs flags (Err r) = refuse_whole rs flags ≡ some (refusal_as r)
WholeEnds rs flags (Ok Bindings) = (refuse_whole rs flags ≡ none) × (payloads Kind.path rs ≡ [])
WholeEnds rs flags (Ok Path) = (refuse_whole rs flags ≡ none) × (0 < count Kind.path rs)

-- the tests of the evidence, 10 to 12, after those of the plan
abbrev pub TestsEvidence : List ℕ → List ℕ → List ℕ → ℕ → Result Case Refusal → Type 0
TestsEvidence file index counts flags r =
    (lens : List ℕ) (rs : List Record) → Known file index lens counts rs → Passed rs → PlanFine rs → WholeEnds rs flags r

-- the first binding that does not fit, or none
abbrev pub FindsFirst : List ℕ → List ℕ → ℕ → ℕ → ℕ → Option ℕ → Type 0
FindsFirst file index types sorts bindings r =
    (rs : List Record) → Passed rs → Indexed file index Kind.type types rs → Indexed file index Kind.sort sorts rs → Indexed file index Kind.binding bindings rs
    → (n : ℕ) → Indexed file index Kind.nonterminal n rs → types ≤ max_types → sorts ≤ max_sorts → bindings ≤ max_bindings → FirstMisfit rs bindings r

-- the answer of the tests over the whole file, and the table of ends where none is met
pub record WholeTested (rs : List Record) (flags : ℕ) (ends : List ℕ) (r : Result Case Refusal) : Type 0 where
  pub verdict : WholeEnds rs flags r
  pub ends_are : refuse_whole rs flags ≡ none → EndsAre rs ends

-- 8 to 12, where the table of ends has room
abbrev pub TestsWhole : List ℕ → List ℕ → List ℕ → ℕ → List ℕ → List ℕ → Result Case Refusal → Type 0
TestsWhole file index counts flags before ends r =
    (lens : List ℕ) (rs : List Record) → Known file index lens counts rs → Passed rs → nodes_in (payloads Kind.rule rs) ≤ length before → WholeTested rs flags ends r

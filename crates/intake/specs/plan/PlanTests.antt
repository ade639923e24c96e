-- What our own crates promise each other; nothing here has to be believed.
-- What the tests of the plan give, 8 and 9, for records that all passed.
use Rattle.std.specs.Prelude.{ℕ, ◌+◌, ◌/◌, ◌<◌, ◌≤◌, ◌≡◌, false, ◌||◌, not, Result, Ok, Err, IsOk, List, eqb, length, get_or}
use Rattle.std.proofs.Math.Option.{none, some}
use Rattle.casefile.specs.Records.{Record}
use Rattle.casefile.specs.Kinds.{Kind, of_kind, payloads, count}
use Rattle.casefile.specs.Tables.{arities_of, signatures_of}
use Rattle.casefile.specs.Refusals.{first, wrong_start, wrong_bodies, refuse_whole}
use Rattle.rules.specs.reading.RuleBodies.{nodes_in, rule_of, first_node, end_at}
use Rattle.casefile.specs.Promises.{Passed}
use Rattle.index.specs.entries.Known.{Known}
use Rattle.records.specs.declared.refusal.Refusal.{Refusal}
use Rattle.records.specs.refusal.Numbers.{refusal_as}

-- 8 and 9 are not met
pub record PlanFine (rs : List Record) : Type 0 where
  pub counts_right : (eqb (count Kind.states rs) 0 || eqb (count Kind.nonterminal rs) 0 || not (eqb (count Kind.rule rs) (count Kind.nonterminal rs))) ≡ false
  pub start_right : first (wrong_start (of_kind Kind.nonterminal rs)) ≡ none
  pub bodies_right : first (wrong_bodies (arities_of rs) (signatures_of rs) (signatures_of rs) (of_kind Kind.rule rs)) ≡ none

-- the answer of the tests of the plan, for any number of flags
unfoldable pub PlanEnds : List Record → Result Unit Refusal → Type 0
PlanEnds rs (Ok x) = PlanFine rs
PlanEnds rs (Err r) = (flags : ℕ) → refuse_whole rs flags ≡ some (refusal_as r)

-- the table has the end of each subterm of each body
abbrev pub EndsAre : List Record → List ℕ → Type 0
EndsAre rs ends = (f i : ℕ) → f < count Kind.rule rs → i < length (rule_of rs f) / 4 → get_or ends (first_node rs f + i) 0 ≡ end_at rs f i

-- the answer of the tests of the plan, and the table of ends where they are not met
pub record PlanTested (rs : List Record) (ends : List ℕ) (r : Result Unit Refusal) : Type 0 where
  pub verdict : PlanEnds rs r
  pub ends_are : IsOk r → EndsAre rs ends

-- 8 and 9, where the table of ends has room
abbrev pub TestsPlan : List ℕ → List ℕ → List ℕ → List ℕ → List ℕ → Result Unit Refusal → Type 0
TestsPlan file index counts before ends r =
    (lens : List ℕ) (rs : List Record) → Known file index lens counts rs → Passed rs → nodes_in (payloads Kind.rule rs) ≤ length before → PlanTested rs ends r

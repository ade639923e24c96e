-- What the judge found meets demand 1, by what the intake took the file for.
use Prim.Native.Nat.{ℕ, ◌≤◌}
use mathlib.Core.Path.{◌≡◌, refl, sym, ap, subst, ◌∙◌}
use mathlib.Core.Bool.{Bool, true, false}
use mathlib.Core.List.{List, [], ◌++◌}
use borrow.Author.Tests.{ltb-false}
use Rattle.std.specs.Prelude.{Result, Ok, Err}
use lib.ListN.{length, get_or, drop}
use Rattle.scheme.specs.Lists.{choose◌then◌else◌}
use Rattle.casefile.specs.Records.{records_of, listed}
use Rattle.casefile.specs.Kinds.{Kind, payloads}
use Rattle.casefile.specs.Tables.{plan_of, automaton_of, bindings_of}
use Rattle.casefile.specs.Refusals.{too_long}
use Rattle.casefile.specs.Cases
use Rattle.casefile.specs.Cases.{refused_case, binding_case, path_case, case_of}
use Rattle.casefile.proofs.Passed.{binding_case_law, path_case_law}
use Rattle.index.specs.layout.Layout.{max_file}
use Rattle.intake.specs.declared.evidence.Case.{Case}
use Rattle.intake.specs.declared.evidence.Case.TheVariants.{Bindings, Path}
use Rattle.intake.specs.intake.Intake.{case_as, CaseFound, Leaves}
use Rattle.casefile.specs.PathCases.{PathAnswer, refuted_path, refused_path, replayed}
use Rattle.replay.specs.replay.Replays.{path_as, ReplaysPath}
use Rattle.replay.specs.declared.replay.Refuted.{Refuted}
use Rattle.casefile.specs.BindingCases.{Shrunk, shrunk}
use Rattle.binding_cases.specs.Judging.{IsShrunk}
use Rattle.demands.specs.Answers.{Answer, proved, unproved, refused, refusal, binding_outcome, path_outcome, outcome_of, answer, flags_after}
use Rattle.demands.specs.Demands.{Demand1, Demand2, Demand3}
use Rattle.demands.proofs.Demands.{demand1, demand2, demand3}
use Rattle.plan_check.specs.Verdicts.{answer_as}
use Rattle.records.specs.declared.refusal.Refusal.{Refusal}
use Rattle.records.specs.refusal.Numbers.{number_of, refusal_as}
use Rattle.plan_check.specs.Promises.{of_bindings_spec, of_refuted, of_refusal, of_path_spec, JudgesBindingCase}
use Rattle.plan_check.specs.declared.Verdict.{Verdict}

answer_path : (p : Result Refuted Refusal) → answer_as (of_path_spec p) ≡ (path_outcome (path_as p)).answer
unfolding answer_as of_path_spec path_as path_outcome refusal
answer_path (Ok r) = refl
answer_path (Err r) = refl

-- the answer to a path, as a verdict
module _ (p : Result Refuted Refusal) where
  pub path_refuted : (r : Refuted) → p ≡ Ok r → of_refuted r ≡ of_path_spec p
  unfolding of_path_spec
  path_refuted r e = sym (ap of_path_spec e)

  pub path_refused : (r : Refusal) → p ≡ Err r → of_refusal r ≡ of_path_spec p
  unfolding of_path_spec
  path_refused r e = sym (ap of_path_spec e)

path_writes : (p : PathAnswer) → (path_outcome p).written ≡ []
unfolding path_outcome refusal
path_writes (refuted_path n q c) = refl
path_writes (refused_path r) = refl

answer_bindings : (s : Shrunk) (lent marks : List ℕ) (b : Bool) (k t r : ℕ) → IsShrunk s lent marks b k t r → answer_as (of_bindings_spec b k t r) ≡ (binding_outcome s).answer
unfolding binding_outcome answer_as of_bindings_spec
answer_bindings s lent marks b k t r w =
    (λ i. answer_as (of_bindings_spec (w.accepted_is i) (w.kept_is i) (w.total_is i) (w.rounds_are i))) ∙ by s.accepted
  where
    by : (b : Bool) → answer_as (of_bindings_spec b s.kept s.total s.rounds) ≡ (choose b then proved s.kept s.total s.rounds else unproved s.kept s.total s.rounds)
    by true = refl
    by false = refl

-- a file that 1 does not refuse
short : (file : List ℕ) → too_long file ≡ false → length file ≤ max_file
unfolding too_long
short file e = ltb-false max_file (length file) e

module _ (file lent : List ℕ) where
  -- the outcome of the file's case is the answer
  meets1 : (c : Cases.Case) → case_of file (length lent) ≡ c → (a : Answer) (marks : List ℕ) → a ≡ (outcome_of c).answer → marks ≡ (outcome_of c).written ++ drop (length (outcome_of c).written) lent → Demand1 file lent a marks
  unfolding answer flags_after
  meets1 c e a marks ea em =
      demand1 file lent a marks
      (ea ∙ ap (λ x. (outcome_of x).answer) (sym e))
      (em ∙ ap (λ x. (outcome_of x).written ++ drop (length (outcome_of x).written) lent) (sym e))

  module _ {index lens counts ends : List ℕ} {r : Result Case Refusal} (w : CaseFound file (length lent) index lens counts ends r) where
    pub judged_refused : (f : Refusal) → r ≡ Err f → Demand1 file lent (answer_as (of_refusal f)) lent
    unfolding case_as outcome_of refusal answer_as
    judged_refused f e = meets1 (refused_case (refusal_as f)) (sym w.is_case ∙ ap (case_as file) e) (refused (number_of f.fault) f.place) lent refl refl

    pub judged_bindings : r ≡ Ok Bindings → {marks : List ℕ} (v : Verdict) → JudgesBindingCase file index counts ends lent marks v → Demand1 file lent (answer_as v) marks
    unfolding case_as outcome_of Leaves binding_outcome
    judged_bindings e {marks} v judges =
        let rs = listed (records_of file) in
        let is : case_of file (length lent) ≡ binding_case rs = sym w.is_case ∙ ap (case_as file) e in
        let tables = subst (Leaves file index lens counts ends) e w.tables in
        let accepted = (binding_case_law (length lent) file rs is).0 in
        let s = shrunk (automaton_of rs) (plan_of rs) (bindings_of rs) in
        let found = judges.judged (short file accepted.short) lens tables.known tables.passed tables.ends_are accepted.whole_file in
        meets1 (binding_case rs) is (answer_as v) marks (ap answer_as judges.is_verdict ∙ answer_bindings s lent marks _ _ _ _ found) found.flags_are

    pub judged_path : r ≡ Ok Path → (p : Result Refuted Refusal) → ReplaysPath file index counts p → (v : Verdict) → v ≡ of_path_spec p → Demand1 file lent (answer_as v) lent
    unfolding case_as outcome_of Leaves
    judged_path e p replays v ev =
        let rs = listed (records_of file) in
        let letters = get_or (payloads Kind.path rs) 0 [] in
        let is : case_of file (length lent) ≡ path_case rs letters = sym w.is_case ∙ ap (case_as file) e in
        let (tables, there) = subst (Leaves file index lens counts ends) e w.tables in
        let accepted = (path_case_law (length lent) file rs letters is).0 in
        let found : path_as p ≡ replayed (automaton_of rs) (plan_of rs) letters = replays.answer lens rs (length lent) tables.known tables.passed accepted.whole_file there in
        let none_written : (path_outcome (replayed (automaton_of rs) (plan_of rs) letters)).written ≡ [] = path_writes (replayed (automaton_of rs) (plan_of rs) letters) in
        meets1 (path_case rs letters) is (answer_as v) lent
        (ap answer_as ev ∙ answer_path p ∙ ap (λ x. (path_outcome x).answer) found)
        (sym (ap (λ l. l ++ drop (length l) lent) none_written))

-- demand 1 has the other two with it
pub demands : {file lent marks : List ℕ} {a : Answer} → Demand1 file lent a marks → Demand1 file lent a marks × (Demand2 file lent a marks × Demand3 file a)
demands d = (d, (demand2 _ _ _ _ d, demand3 _ _ _ _ d))

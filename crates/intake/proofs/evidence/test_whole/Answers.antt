-- `test_whole` meets its contract.
use mathlib.Core.Path.{◌≡◌, ap}
use borrow.Author.Rules.{rules}
use Rattle.std.specs.Prelude.{Err, is_ok}
use Rattle.intake.proofs.evidence.Evidence.{whole_refused, plan_is_fine}
use Rattle.intake.proofs.evidence.test_whole.Goals as goal

pub returns-in_err-test_plan : goal.returns-in_err-test_plan
returns-in_err-test_plan c = λ lens rs kn ok room.
    let same : c.from_residual.result ≡ Err c.in_err-test_plan.field-0.0 = search rules in
    rw same (whole_refused rs _ _ _ _ c.in_err-test_plan.was (c.test_plan.ensures lens rs kn ok room))

pub returns : goal.returns
returns c = λ lens rs kn ok room.
    let fine = c.in_ok-test_plan.was in
    let planned = c.test_plan.ensures lens rs kn ok room in
    record { verdict = c.test_evidence.ensures lens rs kn ok (plan_is_fine rs _ _ _ fine planned); ends_are = λ e. planned.ends_are (ap is_ok fine) }

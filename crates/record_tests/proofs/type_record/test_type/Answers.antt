use mathlib.Core.Bool.{true, false}
use Rattle.record_tests.proofs.type_record.Codes.{passed_on, tested_refused, tested_listed}
use Rattle.record_tests.proofs.type_record.test_type.Goals as goal

pub returns-in_err-test_alone : goal.returns-in_err-test_alone
returns-in_err-test_alone c = λ e. rw (passed_on c.from_residual.result _ c.from_residual.ensures.1) (tested_refused c.args.file.now c.args.index.now _ _ _ _ c.in_err-test_alone.ensures)

pub returns-then-listed : goal.returns-then-listed
returns-then-listed c = λ e. tested_listed _ _ _ _ _ c.in_ok-test_alone.ensures _ true c.if-listed.true (c.listed.ensures e)

pub returns : goal.returns
returns c = λ e. tested_listed _ _ _ _ _ c.in_ok-test_alone.ensures _ false c.if-listed.false (c.listed.ensures e)

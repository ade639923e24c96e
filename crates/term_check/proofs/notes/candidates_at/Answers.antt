-- `candidates_at` meets its contract.
use native.Mathlib.Omega.{arith}
use Rattle.term_check.proofs.heads.Candidates.{row_fits}
use Rattle.term_check.proofs.notes.candidates_at.Goals as goal

pub overflow_mul-result : goal.overflow_mul-result
overflow_mul-result c = omega (arith, row_fits c.args.goal c.number_in.result)

pub overflow_add-result : goal.overflow_add-result
overflow_add-result c = omega (arith, row_fits c.args.goal c.number_in.result)

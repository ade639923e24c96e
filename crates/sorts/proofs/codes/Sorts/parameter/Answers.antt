-- `parameter` meets its contract: with some arguments behind, the next of sort s are the parameters that are left before the one looked for.
use native.Mathlib.Omega.{arith}
use Rattle.sorts.proofs.steps.Parameters.{along_more, along_end}
use Rattle.sorts.proofs.codes.Sorts.parameter.Goals as goal

pub loop-preserved : goal.loop-preserved
loop-preserved c = along_more _ _ _ _ _ _ c.loop.invariant c.loop-test.true c.place_at-s.ensures.value

pub returns-clause-sort : goal.returns-clause-sort
returns-clause-sort c = along_end _ _ _ _ _ _ c.loop.invariant (omega arith) c.place_at.ensures.value

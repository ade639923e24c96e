-- `off` meets its contract.
use native.Mathlib.Omega.{arith}
use Rattle.tables.proofs.reading.Offs.{left_none, left_next, left_end}
use Rattle.tables.proofs.reading.off.Goals as goal

pub returns-then-g-eq-NONE : goal.returns-then-g-eq-NONE
returns-then-g-eq-NONE c = left_none _ c.loop.invariant c.loop-test.true c.if-g-eq-NONE.true

pub loop-preserved : goal.loop-preserved
loop-preserved c = left_next _ c.loop.invariant _ _ c.loop-test.true c.if-g-eq-NONE.false c.result_of-g.ensures.0 (omega arith)

pub returns : goal.returns
returns c = left_end _ c.loop.invariant (omega arith)

-- `measure` meets its contract. The invariant: the terms that are left stand from `next` on.
use native.Mathlib.Omega.{arith}
use mathlib.Core.Path.{refl}
use Rattle.closures.proofs.closures.Measuring.{measure_start, measure_done, measure_far, measure_next}
use Rattle.closures.proofs.closures.measure.Goals as goal

pub loop-need-init : goal.loop-need-init
loop-need-init c = measure_start _ _ _ _ _

pub returns-then-next-ge-PLACE_UNITS : goal.returns-then-next-ge-PLACE_UNITS
returns-then-next-ge-PLACE_UNITS c = measure_far c.loop-need.invariant c.if-next-ge-PLACE_UNITS.true c.loop-need-test.true

pub loop-need-preserved : goal.loop-need-preserved
loop-need-preserved c = measure_next c.loop-need.invariant c.loop-need-test.true _ _ c.weigh-nodes.ensures c.byte_at.ensures.value c.byte_at.ensures.bound _ _ _ refl refl refl

pub returns : goal.returns
returns c = measure_done c.loop-need.invariant (omega arith)

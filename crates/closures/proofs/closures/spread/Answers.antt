-- `spread` meets its contract. The invariant: the first i closures are written, and their nodes summed.
use native.Mathlib.Omega.{arith}
use mathlib.Core.Path.{refl}
use Rattle.closures.proofs.closures.Spreading.{spread_start, spread_end, spread_next}
use Rattle.closures.proofs.closures.Capping.{adds_saturating}
use Rattle.closures.proofs.closures.spread.Goals as goal

pub loop-i-init : goal.loop-i-init
loop-i-init c = spread_start _ _ _ _ _ _ _

pub loop-i-preserved : goal.loop-i-preserved
loop-i-preserved c = let l = c.loop-i.invariant.long in spread_next c.loop-i.invariant c.loop-i-test.true (omega arith) _ _ c.measure_term-measured.ensures c.closure_of-closure.ensures _ (adds_saturating c.saturating_add-total.ensures) _ refl

pub returns : goal.returns
returns c = spread_end c.loop-i.invariant (omega arith)

-- `row_with` meets its contract. The invariant: what each union lacks still is in the bits that are left.
use Prim.Native.Nat.{◌-◌}
use mathlib.Core.Path.{refl}
use native.Mathlib.Omega.{arith}
use lib.Bits.{and_le_l}
use Rattle.fits.proofs.masks.Uniting.{united_none, united_more, united_all}
use Rattle.fits.proofs.masks.row_with.Goals as goal

pub loop-left-init : goal.loop-left-init
loop-left-init c = (omega arith, united_none _ _, united_none _ _)

pub loop-left-preserved : goal.loop-left-preserved
loop-left-preserved c =
    let l = c.loop-left in (
      omega (arith, and_le_l l.left (l.left - 1)),
      united_more _ _ l.results l.left _ l.invariant.1 (omega arith) (omega arith) refl,
      united_more _ _ l.arguments l.left _ l.invariant.2 (omega arith) (omega arith) refl,
    )

pub returns-clause-results : goal.returns-clause-results
returns-clause-results c = let l = c.loop-left in united_all _ _ l.results l.left l.invariant.1 (omega arith)

pub returns-clause-arguments : goal.returns-clause-arguments
returns-clause-arguments c = let l = c.loop-left in united_all _ _ l.arguments l.left l.invariant.2 (omega arith)

-- `closure_of` meets its contract.
use native.Mathlib.Omega.{arith}
use Rattle.closures.proofs.closures.Measuring.{close_packed, close_parameter}
use Rattle.closures.proofs.closures.closure_of.Goals as goal

pub returns-then-at-ge-PLACE_UNITS : goal.returns-then-at-ge-PLACE_UNITS
returns-then-at-ge-PLACE_UNITS c = close_packed c.new-packed.ensures

pub returns-in_default : goal.returns-in_default
returns-in_default c = close_packed c.new-packed.ensures

pub returns : goal.returns
returns c = close_parameter _ c.head_at.ensures _ c.in-Parameter.is _ c.byte_at.ensures.value (let h = c.if-byte_at-gt0.false in omega arith) _ c.new-packed.ensures _ c.closure_at.ensures _ c.unwrap_or.ensures

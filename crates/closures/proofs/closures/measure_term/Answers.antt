-- `measure_term` meets its contract.
use Rattle.closures.proofs.closures.Measuring.{alone_far, alone_done}
use Rattle.closures.proofs.closures.measure_term.Goals as goal

pub returns-then-at-ge-PLACE_UNITS : goal.returns-then-at-ge-PLACE_UNITS
returns-then-at-ge-PLACE_UNITS c = alone_far c.if-at-ge-PLACE_UNITS.true

pub returns-then-byte_at-eq0 : goal.returns-then-byte_at-eq0
returns-then-byte_at-eq0 c = alone_done _ _ c.weigh-nodes.ensures c.byte_at.ensures.value c.if-byte_at-eq0.true

-- `arrive` meets its contract.
use Rattle.replay.proofs.replay.Running.{arrive_not, arrive_goes, arrive_stuck}
use Rattle.replay.proofs.replay.arrive.Goals as goal

pub returns-in_default : goal.returns-in_default
returns-in_default c = arrive_not _ _ _ _ c.in_default.not-Constructor

pub returns-then-is_some : goal.returns-then-is_some
returns-then-is_some c = arrive_goes _ _ _ _ _ c.in-Constructor.is _ c.row_of-row.ensures c.if-is_some.ensures

pub returns : goal.returns
returns c = arrive_stuck _ _ _ _ _ c.in-Constructor.is _ c.row_of-row.ensures c.if-is_some.ensures

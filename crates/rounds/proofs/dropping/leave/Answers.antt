-- `leave` meets its contract.
use Rattle.rounds.proofs.dropping.LentParts.{leave_none, leave_part}
use Rattle.rounds.proofs.dropping.leave.Goals as goal

pub returns-then-r-lt-TEST_CELLS : goal.returns-then-r-lt-TEST_CELLS
returns-then-r-lt-TEST_CELLS c = leave_none _ _ _ _ c.if-r-lt-TEST_CELLS.true

pub returns : goal.returns
returns c = leave_part _ _ _ _ c.if-r-lt-TEST_CELLS.false _ c.leave_sets.ensures

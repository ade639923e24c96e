-- Each record is behind the one before.
use Rattle.std.proofs.Common.{◌-◌}
use Rattle.reducer.proofs.transition.Given as goal

abbrev pub decreases-loop-at : goal.decreases-loop-at
decreases-loop-at l = l.plan.path - l.at

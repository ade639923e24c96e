-- Each record is behind the one before, and the counts of a plan stay within their bounds.
use Rattle.std.proofs.Common.{length, ◌-◌, ◌≤◌}
use Rattle.reducer.proofs.load.Given as goal

abbrev pub invariant-loop-at : goal.invariant-loop-at
invariant-loop-at l = (l.plan.rules ≤ 256) × (l.plan.cells ≤ 65535)

abbrev pub decreases-loop-at : goal.decreases-loop-at
decreases-loop-at l = length l.file - l.at

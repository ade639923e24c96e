-- `gather` meets its contract. The invariant: the term is the node at `place` with its frame, and the arguments gathered.
use Rattle.closures.proofs.fronts.Gathering.{Gathering}
use Rattle.closures.proofs.fronts.gather.Given as goal

abbrev pub invariant-loop-place : goal.invariant-loop-place
invariant-loop-place l = Gathering l.file l.initial.cells l.at l.fn.frame.block l.fn.frame.count l.top l.cells l.free l.place l.under.block l.under.count l.nodes

abbrev pub decreases-loop-place : goal.decreases-loop-place
decreases-loop-place l = l.under.block

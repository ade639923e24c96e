-- `next_marked` meets its contract. The invariant: no number from the first on and below n is marked.
use Prim.Native.Nat.{◌-◌}
use Rattle.marks.proofs.briefs.Passing.{Passes}
use Rattle.marks.proofs.briefs.next_marked.Given as goal

abbrev pub invariant-loop-n : goal.invariant-loop-n
invariant-loop-n l = Passes l.words l.at l.brief l.from l.n

abbrev pub decreases-loop-n : goal.decreases-loop-n
decreases-loop-n l = l.end - l.n

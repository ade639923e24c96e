-- `next_beyond` meets its contract. The invariant: no number from the first on and below n is in the set.
use Prim.Native.Nat.{◌-◌}
use Rattle.marks.proofs.Sets.{Passed}
use Rattle.marks.proofs.next_beyond.Given as goal

abbrev pub invariant-loop-n : goal.invariant-loop-n
invariant-loop-n l = Passed l.words l.at l.from l.n

abbrev pub decreases-loop-n : goal.decreases-loop-n
decreases-loop-n l = l.end - l.n

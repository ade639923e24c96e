-- `spread` meets its contract. The invariant: the first i closures are written, and their nodes summed.
use Rattle.closures.proofs.closures.Spreading.{Spreading}
use Rattle.closures.proofs.closures.spread.Given as goal

abbrev pub invariant-loop-i : goal.invariant-loop-i
invariant-loop-i l = Spreading l.file l.initial.cells l.at l.m l.frame.block l.frame.count l.low l.cells l.i l.next l.total

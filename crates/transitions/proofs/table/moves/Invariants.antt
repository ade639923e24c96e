use Rattle.transitions.specs.table.Moves.{Sofar}
use Rattle.transitions.proofs.table.moves.Given as goal

abbrev pub invariant-loop-k : goal.invariant-loop-k
invariant-loop-k l = Sofar l.file l.index l.n l.t l.k

-- `fill_rows` meets its contract. The invariant: the transitions from number k on are entered.
use Rattle.transitions.proofs.places.Filling.{Sofar}
use Rattle.transitions.proofs.places.fill_rows.Given as goal

abbrev pub invariant-loop-k : goal.invariant-loop-k
invariant-loop-k l = Sofar l.file l.initial.index l.n l.k l.index

-- `fill_body` meets its contract. The invariant: the nodes below i are entered.
use Rattle.tables.proofs.nodes.Filling.{BodyTo}
use Rattle.tables.proofs.nodes.fill_body.Given as goal

abbrev pub invariant-loop-i : goal.invariant-loop-i
invariant-loop-i l = BodyTo l.file l.start l.n l.ends l.first l.at l.initial.t l.i l.t

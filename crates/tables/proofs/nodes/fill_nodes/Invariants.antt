-- `fill_nodes` meets its contract. The invariant: the nodes of the rules below f are entered.
use Rattle.tables.proofs.nodes.Filling.{NodesTo}
use Rattle.tables.proofs.nodes.fill_nodes.Given as goal

abbrev pub invariant-loop-f : goal.invariant-loop-f
invariant-loop-f l = NodesTo l.file l.index l.ends l.firsts l.rules l.at l.initial.t l.f l.t

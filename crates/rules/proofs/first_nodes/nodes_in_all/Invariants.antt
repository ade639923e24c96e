-- `nodes_in_all` meets its contract. The invariant: the rules below f have `all` nodes.
use Rattle.rules.proofs.first_nodes.Numbering.{Counted}
use Rattle.rules.proofs.first_nodes.nodes_in_all.Given as goal

abbrev pub invariant-loop-f : goal.invariant-loop-f
invariant-loop-f l = Counted l.file l.index l.rules l.all l.f

-- `fill_firsts` meets its contract. The invariant: the entries below f are in the table, `at` is the first node of rule f, and
-- no rule below f has more nodes than `most`.
use Rattle.rules.proofs.first_nodes.Numbering.{Sofar}
use Rattle.rules.proofs.first_nodes.fill_firsts.Given as goal

abbrev pub invariant-loop-f : goal.invariant-loop-f
invariant-loop-f l = Sofar l.file l.index l.rules l.initial.firsts l.firsts l.at l.most l.f

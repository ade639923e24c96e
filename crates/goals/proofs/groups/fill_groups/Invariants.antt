-- `fill_groups` meets its contract.
use Rattle.goals.specs.groups.Groups.{nonterminal_in, Sofar}
use Rattle.goals.proofs.groups.fill_groups.Given as goal

abbrev pub invariant-loop-f : goal.invariant-loop-f
invariant-loop-f l = Sofar (nonterminal_in l.file l.index) l.n l.first l.f l.initial.groups l.groups

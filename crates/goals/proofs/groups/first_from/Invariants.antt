use Rattle.goals.specs.groups.Groups.{nonterminal_in}
use Rattle.goals.proofs.groups.Grouping.{Seeking}
use Rattle.goals.proofs.groups.first_from.Given as goal

abbrev pub invariant-loop-i : goal.invariant-loop-i
invariant-loop-i l = Seeking (nonterminal_in l.file l.index) l.n l.from l.f l.i

-- `read_rules` meets its contract. The invariant: the rules before f are accepted.
use Rattle.rules.proofs.reading.AllRules.{Going}
use Rattle.rules.proofs.reading.read_rules.Given as goal

abbrev pub invariant-loop-f : goal.invariant-loop-f
invariant-loop-f l =
    Going l.file l.index l.heads l.rules l.initial.ends l.f l.at l.ends

-- `fill_targets` meets its contract. The invariant: the targets at the states below q are entered.
use Rattle.tables.proofs.automaton.Filling.{TargetsTo}
use Rattle.tables.proofs.automaton.fill_targets.Given as goal

abbrev pub invariant-loop-q : goal.invariant-loop-q
invariant-loop-q l = TargetsTo l.file l.index l.c l.initial.t l.q l.t

-- `present_in` meets its contract. The invariant: the states below q that have a transition are in the set.
use Rattle.tables.proofs.automaton.Filling.{PresentsTo}
use Rattle.tables.proofs.automaton.present_in.Given as goal

abbrev pub invariant-loop-q : goal.invariant-loop-q
invariant-loop-q l = PresentsTo l.index l.c l.q l.states

-- `fill_automaton` meets its contract. The invariant: the constructors below c are entered.
use Rattle.tables.proofs.automaton.Filling.{AutomatonTo}
use Rattle.tables.proofs.automaton.fill_automaton.Given as goal

abbrev pub invariant-loop-c : goal.invariant-loop-c
invariant-loop-c l = AutomatonTo l.file l.index l.constructors l.initial.t l.c l.t

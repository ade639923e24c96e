-- `fill_states` meets its contract. The invariant: the rows of the states below q are entered.
use Rattle.tables.proofs.types.Filling.{StatesTo}
use Rattle.tables.proofs.types.fill_states.Given as goal

abbrev pub invariant-loop-q : goal.invariant-loop-q
invariant-loop-q l = StatesTo l.initial.t l.q l.t

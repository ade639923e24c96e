-- `fill_types` meets its contract. The invariant: the rows of the types below m are entered.
use Rattle.tables.proofs.types.Filling.{TypesTo}
use Rattle.tables.proofs.types.fill_types.Given as goal

abbrev pub invariant-loop-m : goal.invariant-loop-m
invariant-loop-m l = TypesTo l.file l.index l.types l.initial.t l.m l.t

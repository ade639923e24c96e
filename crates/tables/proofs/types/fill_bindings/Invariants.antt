-- `fill_bindings` meets its contract. The invariant: the bindings below b are entered.
use Rattle.tables.proofs.types.Filling.{BindingsTo}
use Rattle.tables.proofs.types.fill_bindings.Given as goal

abbrev pub invariant-loop-b : goal.invariant-loop-b
invariant-loop-b l = BindingsTo l.file l.index l.bindings l.initial.t l.b l.t

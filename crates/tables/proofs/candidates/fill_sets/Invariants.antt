-- `fill_sets` meets its contract. The invariant: the bindings below b are entered.
use Rattle.tables.proofs.candidates.Entering.{SetsTo}
use Rattle.tables.proofs.candidates.fill_sets.Given as goal

abbrev pub invariant-loop-b : goal.invariant-loop-b
invariant-loop-b l = SetsTo l.t l.bindings l.words l.initial.sets l.b l.sets

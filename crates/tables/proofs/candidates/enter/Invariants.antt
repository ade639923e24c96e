-- `enter` meets its contract. The invariant: the goals of the chain that are passed have the binding.
use Rattle.tables.proofs.candidates.Entering.{EnterTo}
use Rattle.tables.proofs.candidates.enter.Given as goal

abbrev pub invariant-loop-goal : goal.invariant-loop-goal
invariant-loop-goal l = EnterTo l.t l.b l.words l.initial.sets l.goal-iterator l.sets

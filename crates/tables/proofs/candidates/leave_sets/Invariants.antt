-- `leave_sets` meets its contract. The invariant: the sets of the chain that are passed lack the binding.
use Rattle.tables.proofs.candidates.Leaving.{LeaveTo}
use Rattle.tables.proofs.candidates.leave_sets.Given as goal

abbrev pub invariant-loop-goal : goal.invariant-loop-goal
invariant-loop-goal l = LeaveTo l.t l.b l.words l.initial.sets l.goal-iterator l.sets

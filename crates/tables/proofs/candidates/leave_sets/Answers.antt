-- `leave_sets` meets its contract. The invariant: the sets of the chain that are passed lack the binding.
use native.Mathlib.Omega.{arith}
use Rattle.tables.proofs.candidates.Leaving.{leave_none, leave_more, leave_over}
use Rattle.tables.proofs.candidates.leave_sets.Goals as goal

pub loop-goal-init : goal.loop-goal-init
loop-goal-init c = leave_none c.into_iter-goal-iterator.ensures.into_iter_gives c.chain_of-goal-items.ensures

pub loop-goal-preserved : goal.loop-goal-preserved
loop-goal-preserved c = leave_more c.loop-goal.invariant c.in-Some.ensures.steps _ c.take_out.ensures

pub returns : goal.returns
returns c = leave_over c.loop-goal.invariant (λ i. omega (arith, c.type_inv.t i)) c.in-None.ensures.steps

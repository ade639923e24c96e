-- `enter` meets its contract. The invariant: the goals of the chain that are passed have the binding.
use Rattle.tables.proofs.candidates.Entering.{enter_none, enter_more, enter_over}
use Rattle.tables.proofs.candidates.enter.Goals as goal

pub loop-goal-init : goal.loop-goal-init
loop-goal-init c = enter_none c.into_iter-goal-iterator.ensures.into_iter_gives c.chain_of-goal-items.ensures

pub loop-goal-preserved : goal.loop-goal-preserved
loop-goal-preserved c = enter_more c.loop-goal.invariant c.in-Some.ensures.steps _ c.put_in.ensures

pub returns : goal.returns
returns c = enter_over c.loop-goal.invariant c.in-None.ensures.steps

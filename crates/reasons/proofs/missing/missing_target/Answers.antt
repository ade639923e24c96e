-- `missing_target` meets its contract. The invariant: the search comes to the same among the arguments that are left.
use native.Mathlib.Omega.{arith}
use mathlib.Core.Path.{◌∙◌}
use Rattle.term_check.proofs.check.Keeping.{next_by}
use Rattle.reasons.proofs.missing.Seeking.{targets_end, targets_found, targets_next}
use Rattle.reasons.proofs.missing.missing_target.Goals as goal

pub returns-then-not-has_goal : goal.returns-then-not-has_goal
returns-then-not-has_goal c = (c.has_goal.ensures.0 ∙ c.loop.invariant.0, targets_found _ _ _ _ _ _ c.loop.invariant.1 (omega arith) _ _ _ c.has_goal.ensures.1 c.if-not-has_goal.true)

pub loop-preserved : goal.loop-preserved
loop-preserved c = (c.has_goal.ensures.0 ∙ c.loop.invariant.0, targets_next _ _ _ _ _ _ c.loop.invariant.1 (omega arith) _ _ _ c.has_goal.ensures.1 c.if-not-has_goal.false _ (next_by _ c.args.r.now _ _ _ c.number_in-base.ensures.0 c.node_of-node.ensures) _ (omega arith))

pub returns : goal.returns
returns c = (c.loop.invariant.0, targets_end _ _ _ _ _ _ c.loop.invariant.1 (omega arith))

-- `missing_member` meets its contract. The invariant: the members before number j are had.
use native.Mathlib.Omega.{arith}
use mathlib.Core.Path.{◌∙◌}
use Rattle.reasons.proofs.missing.Asking.{members_had, member_had, member_lacked}
use Rattle.reasons.proofs.missing.missing_member.Goals as goal

pub returns-then-not-has_goal : goal.returns-then-not-has_goal
returns-then-not-has_goal c = (c.has_goal.ensures.0 ∙ c.loop-j.invariant.0, member_lacked _ _ _ _ _ c.loop-j.invariant.1 _ c.many_of-many.ensures.0 c.loop-j-test.true _ c.member_of-goal.ensures.0 _ _ _ c.has_goal.ensures.1 c.if-not-has_goal.true)

pub loop-j-preserved : goal.loop-j-preserved
loop-j-preserved c = (c.has_goal.ensures.0 ∙ c.loop-j.invariant.0, member_had _ _ _ _ _ c.loop-j.invariant.1 _ c.many_of-many.ensures.0 c.loop-j-test.true _ c.member_of-goal.ensures.0 _ _ _ c.has_goal.ensures.1 c.if-not-has_goal.false _ (omega arith))

pub returns : goal.returns
returns c = (c.loop-j.invariant.0, members_had _ _ _ _ _ c.loop-j.invariant.1 _ c.many_of-many.ensures.0 c.loop-j-test.false)

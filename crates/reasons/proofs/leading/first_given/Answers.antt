-- `first_given` meets its contract. The invariant: the members before number j do not lead to the goal.
use native.Mathlib.Omega.{arith}
use mathlib.Core.Path.{refl}
use Rattle.reasons.proofs.leading.Given.{given_nothing, given_none, given_more, given_first}
use Rattle.reasons.proofs.leading.first_given.Goals as goal

pub returns-in_err-given : goal.returns-in_err-given
returns-in_err-given c = λ nc nn. rw c.from_residual.ensures (given_nothing _ c.args.node _ _ refl nc nn c.in_err-given.ensures)

pub returns-then-off-goal : goal.returns-then-off-goal
returns-then-off-goal c = λ nc nn. given_first _ _ _ _ c.in_ok-given.ensures.0 nc nn c.loop-j.invariant _ c.many_of-many.ensures.0 c.loop-j-test.true c.in_ok-given.ensures.1 _ c.member_of-ty.ensures.0 _ c.off.ensures c.if-off-goal.true

pub loop-j-preserved : goal.loop-j-preserved
loop-j-preserved c = given_more _ _ _ _ _ _ c.member_of-ty.ensures.0 c.loop-j.invariant _ c.off.ensures c.if-off-goal.false _ (omega arith)

pub returns : goal.returns
returns c = λ nc nn. given_none _ _ _ _ c.in_ok-given.ensures.0 nc nn c.loop-j.invariant _ c.many_of-many.ensures.0 c.loop-j-test.false

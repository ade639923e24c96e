-- `matches` meets its contract.
use native.Mathlib.Omega.{arith}
use mathlib.Core.Bool.{false}
use Rattle.term_check.proofs.heads.Matching.{match_end, match_many, match_member, match_next}
use Rattle.term_check.proofs.heads.matches.Goals as goal
use Rattle.term_check.proofs.heads.matches.Goals.{then-many_of-ne1-via-then-many_of-ne1, then-many_of-ne1-via-else-many_of-ne1+then-member_of-rest}

pub returns-then-many_of-ne1 : goal.returns-then-many_of-ne1
returns-then-many_of-ne1 c =
    c.loop.invariant false (elim c.then-many_of-ne1.branch [
      | then-many_of-ne1-via-then-many_of-ne1 w ↦ match_many _ _ _ _ _ (omega arith) c.many_of.ensures.0 w.if-many_of-ne1.true
      | then-many_of-ne1-via-else-many_of-ne1+then-member_of-rest w ↦ match_member _ _ _ _ _ (omega arith) w.member_of.ensures.0 w.if-member_of-rest.true
    ])

pub loop-preserved : goal.loop-preserved
loop-preserved c r m = c.loop.invariant r (match_next _ _ _ _ _ _ _ _ r (omega arith) (omega arith) c.many_of.ensures.0 c.if-many_of-ne1.false c.member_of.ensures.0 c.if-member_of-rest.false c.result_of-g.ensures.0 m)

pub returns : goal.returns
returns c = c.loop.invariant _ (match_end _ _ _ _ (omega arith))

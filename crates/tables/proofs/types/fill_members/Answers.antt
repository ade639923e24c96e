-- `fill_members` meets its contract. The invariant: the members before j are entered, and what there is among them.
use Rattle.tables.proofs.types.Filling.{members_more}
use Rattle.tables.proofs.types.fill_members.Goals as goal

pub loop-j-preserved : goal.loop-j-preserved
loop-j-preserved c = members_more c.loop-j.invariant c.loop-j-test.true _ _ _ c.row_at-row.ensures.0 c.word_at.ensures.value c.goal_of-goal.ensures.0 c.with_member-among.ensures

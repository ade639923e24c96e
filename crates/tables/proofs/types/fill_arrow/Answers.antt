-- `fill_arrow` meets its contract.
use Rattle.tables.proofs.types.Filling.{near_or, arrow_filled}
use Rattle.tables.proofs.types.fill_arrow.Goals as goal

pub returns : goal.returns
returns c = arrow_filled c.requires.1 c.requires.2 _ _ _ _ _ c.row_at-row.ensures.0 c.word_at.ensures.value c.goal_of-result.ensures.0 c.goal_of-result.ensures.1 c.end_of-end.ensures.0 c.end_of-end.ensures.1 c.members_in-many.ensures c.fill_members-among.ensures (near_or _ c.unwrap_or-near.ensures c.near_members.ensures)

-- `join_users` meets its contract.
use Rattle.term_check.proofs.parts.Parting.{from_below}
use Rattle.rounds.proofs.dropping.LentParts.{join_part}
use Rattle.rounds.proofs.dropping.join_users.Goals as goal

pub slice_bounds-join-count : goal.slice_bounds-join-count
slice_bounds-join-count c = from_below _ _ _ _ c.split_of-split.ensures.0 c.split_of-split.ensures.1 c.from_of-from.ensures.0

pub slice_bounds-join-start : goal.slice_bounds-join-start
slice_bounds-join-start c = from_below _ _ _ _ c.split_of-split.ensures.0 c.split_of-split.ensures.1 c.from_of-from.ensures.0

pub returns : goal.returns
returns c = join_part _ _ _ _ _ _ _ _ c.split_of-split.ensures.0 c.split_of-split.ensures.1 c.from_of-from.ensures.0 c.join.ensures

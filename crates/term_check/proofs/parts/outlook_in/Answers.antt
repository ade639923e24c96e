-- `outlook_in` meets its contract.
use Rattle.term_check.proofs.parts.Parting.{outlook_part}
use Rattle.term_check.proofs.parts.outlook_in.Goals as goal

pub returns : goal.returns
returns c = outlook_part _ _ _ _ _ c.split_of-split.ensures.0 c.split_of-split.ensures.1 c.number_in-wide.ensures.0 c.stamp_of-stamp.ensures _ _ _ c.outlook_of.ensures

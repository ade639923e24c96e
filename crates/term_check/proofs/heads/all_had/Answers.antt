-- `all_had` meets its contract.
use Rattle.term_check.proofs.heads.Looking.{had_seen}
use Rattle.term_check.proofs.heads.all_had.Goals as goal

pub returns : goal.returns
returns c = had_seen _ _ _ _ _ _ _ _ c.near_of-near.ensures.0 c.if-near-eq-NONE.false c.mask_of.ensures c.outlook_in-known.ensures c.left_of.ensures

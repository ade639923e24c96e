-- `leaf_states` meets its contract.
use Rattle.term_check.proofs.heads.Building.{leaf_decided}
use Rattle.term_check.proofs.heads.leaf_states.Goals as goal

pub returns : goal.returns
returns c = leaf_decided _ _ _ _ _ c.if-node-ne0.false c.if-node-ge-MAX_CONSTRUCTORS.false c.arity_of.ensures.0 c.if-arity_of-ne0.false c.if-asked-gt65535.false c.present_of-present.ensures.0

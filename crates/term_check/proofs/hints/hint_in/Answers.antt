-- `hint_in` meets its contract.
use Rattle.term_check.proofs.parts.Parting.{set_twice}
use Rattle.term_check.proofs.hints.hint_in.Goals as goal

pub returns : goal.returns
returns c = set_twice _ _ _ _ _ _ c.from_of-hints.ensures.0 (c.head_place-head.ensures c.if-hints-lt-FEW_HINTS.false) (c.node_place-node.ensures c.if-hints-lt-FEW_HINTS.false)

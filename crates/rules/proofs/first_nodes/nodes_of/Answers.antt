-- `nodes_of` meets its contract.
use Rattle.rules.proofs.first_nodes.Numbering.{nodes_long}
use Rattle.rules.proofs.first_nodes.nodes_of.Goals as goal

pub returns-then-len-gt-MAX_BODY : goal.returns-then-len-gt-MAX_BODY
returns-then-len-gt-MAX_BODY c = nodes_long _ c.place_at.ensures.value _ c.length_at-len.ensures c.if-len-gt-MAX_BODY.true

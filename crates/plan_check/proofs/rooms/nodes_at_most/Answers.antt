-- `nodes_at_most` meets its contract.
use Rattle.plan_check.proofs.Lending.{nodes_by_length, nodes_by_rules}
use Rattle.plan_check.proofs.rooms.nodes_at_most.Goals as goal

pub returns-then-nodes-le-TINY_NODES : goal.returns-then-nodes-le-TINY_NODES
returns-then-nodes-le-TINY_NODES c = nodes_by_length

pub returns : goal.returns
returns c = nodes_by_rules c.count_of.ensures.value c.nodes_in_all.ensures

-- `enter_node` meets its contract.
use Rattle.tables.proofs.nodes.Filling.{node_entered}
use Rattle.tables.proofs.nodes.enter_node.Goals as goal

pub returns : goal.returns
returns c = node_entered _ _ _ c.requires.2

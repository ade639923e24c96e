-- `node_of` meets its contract.
use Rattle.tables.proofs.reading.Offs.{node_made}
use Rattle.tables.proofs.reading.node_of.Goals as goal

pub returns : goal.returns
returns c = node_made _ _ _ _ _ _ c.place_at-head.ensures.value c.place_at-number.ensures.value c.place_at-next.ensures.value

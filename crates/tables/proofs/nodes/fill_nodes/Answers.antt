-- `fill_nodes` meets its contract. The invariant: the nodes of the rules below f are entered.
use Rattle.tables.proofs.nodes.Filling.{bodies_more, bodies_all}
use Rattle.tables.proofs.nodes.fill_nodes.Goals as goal

pub loop-f-preserved : goal.loop-f-preserved
loop-f-preserved c = bodies_more c.loop-f.invariant c.loop-f-test.true _ _ _ c.place_at-start.ensures.value c.count_nodes-n.ensures c.place_at-first.ensures.value _ c.fill_body.ensures

pub returns : goal.returns
returns c = bodies_all c.loop-f.invariant c.loop-f-test.false

-- `nodes_in_all` meets its contract. The invariant: the rules below f have `all` nodes.
use Rattle.rules.proofs.first_nodes.Numbering.{counted_none, counted_more, counted_all}
use Rattle.rules.proofs.first_nodes.nodes_in_all.Goals as goal

pub loop-f-init : goal.loop-f-init
loop-f-init c = counted_none _ c.if-rules-gt-MAX_NONTERMINALS.false

pub loop-f-preserved : goal.loop-f-preserved
loop-f-preserved c = counted_more c.loop-f.invariant _ c.loop-f-test.true c.nodes_of-all.ensures

pub returns : goal.returns
returns c = counted_all c.loop-f.invariant c.loop-f-test.false

-- `read_node` meets its contract.
use Rattle.bodies.proofs.Backward.{read_misfit, read_deep, read_held, taken_misfit, taken_held}
use Rattle.bodies.proofs.Heads.read_node.Goals as goal

pub returns-in_err-a : goal.returns-in_err-a
returns-in_err-a c =
    let node = c.node_at-node.ensures in
    rw c.from_residual.ensures (taken_misfit (read_misfit (c.code-head.ensures.head _ _ node.tag.value node.number.value) node.count.value c.arguments_fit.ensures c.in_err-a.was))

pub returns-then-a-ge-MAX_DEPTH : goal.returns-then-a-ge-MAX_DEPTH
returns-then-a-ge-MAX_DEPTH c =
    let node = c.node_at-node.ensures in
    taken_misfit (read_deep (c.code-head.ensures.head _ _ node.tag.value node.number.value) node.count.value c.arguments_fit.ensures _ c.in_ok-a.was c.if-a-ge-MAX_DEPTH.true)

pub returns : goal.returns
returns c =
    let node = c.node_at-node.ensures in
    let q = c.requires in
    taken_held q.inside q.room (read_held (c.code-head.ensures.head _ _ node.tag.value node.number.value) node.count.value c.arguments_fit.ensures _ c.in_ok-a.was c.if-a-ge-MAX_DEPTH.false)

-- `fill_firsts` meets its contract. The invariant: the entries below f are in the table, `at` is the first node of rule f, and
-- no rule below f has more nodes than `most`.
use native.Mathlib.Omega.{arith}
use Rattle.rules.proofs.first_nodes.Numbering.{numbers_none, numbers_more}
use Rattle.rules.proofs.first_nodes.fill_firsts.Goals as goal

pub loop-f-init : goal.loop-f-init
loop-f-init c = numbers_none _ _ _ _ c.if-rules-gt-MAX_NONTERMINALS.false (omega (arith, c.if-firsts-lt-ROWS.false))

pub loop-f-preserved : goal.loop-f-preserved
loop-f-preserved c = numbers_more c.loop-f.invariant _ c.loop-f-test.true c.nodes_of-n.ensures _ c.max-most.ensures

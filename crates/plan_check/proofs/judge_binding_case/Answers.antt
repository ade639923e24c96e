-- `judge_binding_case` meets its contract.
use Rattle.plan_check.proofs.Lending.{no_bindings_judged, chosen_judged}
use Rattle.plan_check.proofs.judge_binding_case.Goals as goal

pub returns-then-total-eq0 : goal.returns-then-total-eq0
returns-then-total-eq0 c = no_bindings_judged c.count_of-total.ensures.value c.if-total-eq0.true

pub returns : goal.returns
returns c = chosen_judged c.nodes_at_most-nodes.ensures c.first_with_room-frame.ensures c.count_of.ensures.value c.count_of-total.ensures.value c.bindings_in.ensures c.from.ensures

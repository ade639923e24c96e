-- `turn` meets its contract. The invariant: all marked bindings below b are tested.
use mathlib.Core.Path.{refl, ◌∙◌}
use Rattle.term_check.proofs.parts.Parting.{same_lengths}
use Rattle.rounds.proofs.tested.Placing.{same_none, same_more}
use Rattle.rounds.proofs.tested.Retesting.{retests_from}
use Rattle.rounds.proofs.shrinking.Turning.{turn_none, turn_more, turn_all}
use Rattle.rounds.proofs.shrinking.turn.Goals as goal

pub loop-b-init : goal.loop-b-init
loop-b-init c = (c.next_marked-b.ensures.within, refl, same_none _, turn_none _ _ _ _ _ _ _ _ _ _ _ _ c.next_marked-b.ensures)

pub loop-b-preserved : goal.loop-b-preserved
loop-b-preserved c =
    let i = c.loop-b.invariant in
    let h = c.loop-b-test.true in
    let x = c.retest-n.ensures in
    (c.next_marked-b-in-loop-b.ensures.within, x.0 ∙ i.1, same_more i.2 x.1, turn_more _ _ _ _ _ _ _ _ _ _ _ _ _ _ _ i.3 _ c.total-total.ensures h _ _ _ _ _ (same_lengths _ _ _ x.0).1 x.2 (retests_from _ _ _ _ _ _ _ _ _ _ _ _ _ i.2 x.3) c.next_marked-b-in-loop-b.ensures)

pub returns : goal.returns
returns c = (c.loop-b.invariant.1, c.loop-b.invariant.2, turn_all _ _ _ _ _ _ _ _ _ _ _ _ _ _ _ c.loop-b.invariant.3 _ c.total-total.ensures c.loop-b.invariant.0 c.loop-b-test.false)

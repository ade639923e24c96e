-- `shrink` meets its contract. The invariant: the rounds that are left lead to what the definitions say, and what is not marked
-- rests on its notes. The measure: how many rounds there may still be.
use native.Mathlib.Omega.{arith}
use mathlib.Core.Path.{refl, ◌∙◌}
use Rattle.rounds.proofs.tested.Placing.{placed_none, placed_more}
use Rattle.rounds.proofs.dropping.LentParts.{drops_all_from}
use Rattle.rounds.proofs.shrinking.Turning.{turns_from}
use Rattle.rounds.proofs.shrinking.Going.{going_none, going_more, going_all, going_out, going_from}
use Rattle.rounds.proofs.shrinking.shrink.Goals as goal

pub loop-rounds-init : goal.loop-rounds-init
loop-rounds-init c = (omega arith, refl, placed_none _, going_none _ _ c.args.sizes _ _ _ _ _ c.total-total.ensures _ c.all_kept.ensures)

pub returns-in_default : goal.returns-in_default
returns-in_default c = going_from _ _ _ _ _ _ _ _ _ _ _ _ (going_all _ _ _ _ _ _ _ _ _ _ _ _ _ _ c.loop-rounds.invariant.3 _ c.total-total.ensures _ _ _ _ (turns_from _ _ _ _ _ _ _ _ _ _ _ _ _ c.loop-rounds.invariant.2 c.turn-n.ensures.2) c.in_default.is _ c.count_kept.ensures.0) c.total-total.ensures c.all_kept.ensures

pub loop-rounds-preserved : goal.loop-rounds-preserved
loop-rounds-preserved c =
    let i = c.loop-rounds.invariant in
    let u = c.turn-n.ensures in
    let d = c.drop_failed.ensures in
    (omega arith, u.0 ∙ i.1, placed_more (placed_more i.2 u.1.placed) d.0, going_more _ _ _ _ _ _ _ _ _ _ _ _ _ _ i.3 _ c.total-total.ensures _ _ _ _ (turns_from _ _ _ _ _ _ _ _ _ _ _ _ _ i.2 u.2) _ c.in-Some.is _ _ _ (drops_all_from _ _ _ _ _ _ _ _ _ _ _ _ _ _ _ i.2 u.1 (d.1 c.args.firsts.now)))

pub returns : goal.returns
returns c = going_from _ _ _ _ _ _ _ _ _ _ _ _ (going_out _ _ _ _ _ _ _ _ _ _ _ _ _ _ c.loop-rounds.invariant.3 _ c.total-total.ensures (omega (arith, c.loop-rounds-test.false)) _ _) c.total-total.ensures c.all_kept.ensures

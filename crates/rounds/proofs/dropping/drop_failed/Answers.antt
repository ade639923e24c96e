-- `drop_failed` meets its contract. The invariant: all that failed below b are dropped, and b failed.
use native.Mathlib.Omega.{arith}
use Rattle.rounds.proofs.tested.Placing.{placed_none, placed_more}
use Rattle.rounds.proofs.dropping.Gone.{dropped_none, dropped_more, dropped_all}
use Rattle.rounds.proofs.dropping.LentParts.{drops_from}
use Rattle.rounds.proofs.dropping.drop_failed.Goals as goal

pub loop-b-init : goal.loop-b-init
loop-b-init c = (λ l. (c.next_in-b.ensures.found l).1, placed_none _, λ firsts. dropped_none _ _ _ _ _ _ _ _ _ _ _ c.next_in-b.ensures)

pub loop-b-preserved : goal.loop-b-preserved
loop-b-preserved c =
    let h = c.loop-b-test.true in
    let i = c.loop-b.invariant in
    let d = c.drop_binding.ensures in (
      λ l. (c.next_beyond-b.ensures.found l).1,
      placed_more i.1 d.0,
      λ firsts. dropped_more _ _ _ _ _ _ _ _ _ _ _ _ _ _ (i.2 firsts) h (i.0 h) _ _ _ (drops_from _ _ _ _ _ _ _ _ _ _ _ _ _ i.1 (d.1 firsts)) _ c.next_beyond-b.ensures,
    )

pub returns : goal.returns
returns c = (c.loop-b.invariant.1, λ firsts. dropped_all _ _ _ _ _ _ _ _ _ _ _ _ _ _ (c.loop-b.invariant.2 firsts) (omega (arith, c.loop-b-test.false)))

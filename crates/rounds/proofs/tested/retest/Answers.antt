-- `retest` meets its contract.
use mathlib.Core.Path.{refl, ◌∙◌}
use Rattle.rounds.proofs.tested.Placing.{same_none}
use Rattle.rounds.proofs.tested.Retesting.{retest_dropped, retest_holds, retest_fails}
use Rattle.rounds.proofs.tested.retest.Goals as goal

pub returns-then-byte_at-eq0 : goal.returns-then-byte_at-eq0
returns-then-byte_at-eq0 c = (refl, same_none _, refl, retest_dropped _ _ _ _ _ _ _ _ _ _ _ c.byte_at.ensures.value c.if-byte_at-eq0.true)

pub returns-then-holds : goal.returns-then-holds
returns-then-holds c = (c.holds.ensures.0 ∙ c.freshen-stamp.ensures.0, c.holds.ensures.1, refl, retest_holds _ _ _ _ _ _ _ _ _ _ _ c.byte_at.ensures.value c.if-byte_at-eq0.false _ _ c.freshen-stamp.ensures.2 _ c.freshen-stamp.ensures.1 _ _ _ c.holds.ensures.2 c.if-holds.true)

pub returns : goal.returns
returns c = (c.holds.ensures.0 ∙ c.freshen-stamp.ensures.0, c.holds.ensures.1, c.put_in.ensures.long, retest_fails _ _ _ _ _ _ _ _ _ _ _ c.byte_at.ensures.value c.if-byte_at-eq0.false _ _ c.freshen-stamp.ensures.2 _ c.freshen-stamp.ensures.1 _ _ _ c.holds.ensures.2 c.if-holds.false _ c.put_in.ensures _ c.with_failed.ensures)

-- `alone` meets its contract.
use mathlib.Core.Path.{refl}
use Rattle.term_check.proofs.heads.Looking.{alone_known}
use Rattle.term_check.proofs.heads.alone.Goals as goal

pub returns : goal.returns
returns c = alone_known _ _ _ _ _ _ c.if-node-ne0.false c.if-goal-ge-MAX_STATES.false refl c.in_ok-given.ensures.0 c.in_ok-given.ensures.1 c.if-given-lt-MAX_STATES.false c.states_of-had.ensures.0

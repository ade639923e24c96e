-- `look` meets its contract.
use native.Mathlib.Omega.{arith}
use mathlib.Core.Path.{refl}
use Rattle.term_check.proofs.heads.Looking.{seen_memo, seen_given}
use Rattle.term_check.proofs.heads.look.Goals as goal

pub returns-then-node-ne2 : goal.returns-then-node-ne2
returns-then-node-ne2 c = λ ea. seen_memo _ _ _ _ _ _ refl refl c.outlook_in.ensures

pub returns-in-Some : goal.returns-in-Some
returns-in-Some c = λ ea.
    seen_given _ _ _ _ _ _ _ _ ea (λ z. let h = c.if-node-ne2.false in omega arith) (λ z. let h = c.if-node-ne2.false in omega arith) c.if-node-ne0.false refl
    c.in-Some.ensures.0 c.in-Some.ensures.1 c.if-given-ge-MAX_STATES.true c.states_of-had.ensures.0 c.states_of-had.ensures.1 refl refl

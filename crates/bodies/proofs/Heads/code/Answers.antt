-- `code` meets its contract.
use native.Mathlib.Omega.{arith}
use Rattle.bodies.proofs.Nodes.{head_con, head_nt, head_par}
use Rattle.bodies.proofs.Heads.code.Goals as goal

pub returns-in-0-clause-head : goal.returns-in-0-clause-head
returns-in-0-clause-head c = λ p i et en sorts counts numbers w h. head_con w i _ _ _ _ h et en c.in-0.is c.place_at.ensures.value c.place_at-in-0.ensures.value

pub returns-in-1-clause-head : goal.returns-in-1-clause-head
returns-in-1-clause-head c = λ p i et en sorts counts numbers w h. head_nt w i _ _ _ h et en c.in-1.is c.place_at-in-1.ensures.value

pub returns-in_default-clause-head : goal.returns-in_default-clause-head
returns-in_default-clause-head c = λ p i et en sorts counts numbers w h. head_par w i _ _ _ h et en (λ e. omega arith) (λ e. omega arith) (rw c.place_at-in_default.ensures.value (c.requires _ c.if-number-lt-MAX_ARGUMENTS.true))

pub returns-in_default-2-clause-head : goal.returns-in_default-2-clause-head
returns-in_default-2-clause-head c = λ p i et en sorts counts numbers w h. head_par w i _ _ _ h et en (λ e. omega arith) (λ e. omega arith) c.parameter.ensures.sort

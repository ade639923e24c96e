-- `leading_type` meets its contract.
use Rattle.reasons.proofs.leading.leading_type.Goals as goal

pub returns-then-node-eq1 : goal.returns-then-node-eq1
returns-then-node-eq1 c = λ nc. c.first_bound.ensures c.if-node-eq1.true

pub returns : goal.returns
returns c = λ nc. c.first_given.ensures nc c.if-node-eq1.false

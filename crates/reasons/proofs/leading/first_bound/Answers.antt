-- `first_bound` meets its contract.
use native.Mathlib.Omega.{arith}
use Rattle.reasons.proofs.leading.Bound.{first_none, first_leads}
use Rattle.reasons.proofs.leading.first_bound.Goals as goal

pub returns-in_err-found : goal.returns-in_err-found
returns-in_err-found c = λ et. rw c.from_residual.ensures (first_none _ c.args.node _ _ c.group_of.ensures.0 et (c.in_err-found.ensures.1 (let e = c.group_of.ensures.0 in omega arith)))

pub returns : goal.returns
returns c = λ et. let found = c.in_ok-found.ensures.1 (let e = c.group_of.ensures.0 in omega arith) in first_leads _ c.args.node _ _ c.group_of.ensures.0 et c.in_ok-found.found found.2 found.3

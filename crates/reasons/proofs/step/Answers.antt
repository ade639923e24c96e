-- `step` meets its contract.
use native.Mathlib.Omega.{arith}
use mathlib.Core.Path.{refl}
use Rattle.term_check.proofs.check.Keeping.{node_by}
use Rattle.reasons.proofs.Stepping.{step_past, step_none, step_argument, step_no_targets, step_target}
use Rattle.reasons.proofs.step.Goals as goal

pub returns-then-at-ge-MAX_NODES : goal.returns-then-at-ge-MAX_NODES
returns-then-at-ge-MAX_NODES c = (refl, step_past _ _ _ _ _ c.if-at-ge-MAX_NODES.true)

pub returns-in_err-targets : goal.returns-in_err-targets
returns-in_err-targets c = (refl, rw c.from_residual.ensures (step_no_targets _ _ _ _ _ _ (node_by _ c.args.r.now _ _ _ c.number_in.ensures.0 c.node_of-node.ensures) c.if-node-eq0.true c.in_err-targets.ensures))

pub returns-then-node-eq0 : goal.returns-then-node-eq0
returns-then-node-eq0 c = (c.missing_target.ensures.0, step_target _ _ _ _ _ _ (node_by _ c.args.r.now _ _ _ c.number_in.ensures.0 c.node_of-node.ensures) c.if-node-eq0.true _ c.in_ok-targets.ensures _ (omega arith) _ _ _ c.missing_target.ensures.1)

pub returns-in_err-ty : goal.returns-in_err-ty
returns-in_err-ty c = (refl, rw c.from_residual-in_err-ty.ensures (step_none _ _ _ _ _ _ (node_by _ c.args.r.now _ _ _ c.number_in.ensures.0 c.node_of-node.ensures) c.if-node-eq0.false (c.in_err-ty.ensures c.if-node-eq0.false)))

pub returns : goal.returns
returns c = (c.missing_argument.ensures.0, step_argument _ _ _ _ _ _ (node_by _ c.args.r.now _ _ _ c.number_in.ensures.0 c.node_of-node.ensures) c.if-node-eq0.false _ (c.in_ok-ty.ensures c.if-node-eq0.false) _ (omega arith) _ _ _ c.missing_argument.ensures.1)

-- `state_targets` meets its contract.
use Rattle.term_check.proofs.heads.Building.{state_missing, state_partial, state_found}
use Rattle.term_check.proofs.heads.state_targets.Goals as goal

pub returns-then-present-q-eq0 : goal.returns-then-present-q-eq0
returns-then-present-q-eq0 c = state_missing _ _ _ _ c.requires _ c.present_of-present.ensures.0 c.if-present-q-eq0.true

pub returns-then-arity_of-count : goal.returns-then-arity_of-count
returns-then-arity_of-count c = state_partial _ _ _ _ c.requires _ c.arity_of.ensures.0 c.if-arity_of-count.true

pub returns : goal.returns
returns c =
    state_found _ _ _ _ c.requires _ _ _ c.if-c-ge-MAX_CONSTRUCTORS.false c.present_of-present.ensures.0 c.if-present-q-eq0.false c.arity_of.ensures.0 c.if-arity_of-count.false c.targets_of.ensures.0

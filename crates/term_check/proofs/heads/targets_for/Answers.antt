-- `targets_for` meets its contract.
use Rattle.term_check.proofs.heads.Building.{no_transition, too_few, no_match, match_found}
use Rattle.term_check.proofs.heads.targets_for.Goals as goal

pub returns-then-present-q-eq0 : goal.returns-then-present-q-eq0
returns-then-present-q-eq0 c = no_transition _ _ _ _ _ _ (λ rs are. c.end_of-q.ensures.0) c.present_of-present.ensures.0 c.if-present-q-eq0.true

pub returns-then-arity-count : goal.returns-then-arity-count
returns-then-arity-count c = too_few _ _ _ _ _ c.arity_of-arity.ensures.0 c.if-arity-count.true

pub returns-then-not-matches : goal.returns-then-not-matches
returns-then-not-matches c = no_match _ _ _ _ _ _ _ _ _ (λ rs are. c.end_of-q.ensures.0) c.arity_of-arity.ensures.0 c.targets_of-targets.ensures.0 c.behind.ensures c.matches.ensures c.if-not-matches.true

pub returns : goal.returns
returns c =
    match_found _ _ _ _ _ _ _ _ _ (λ rs are. c.end_of-q.ensures.0) c.arity_of-arity.ensures.0 c.targets_of-targets.ensures.0 c.behind.ensures c.matches.ensures
    c.if-c-ge-MAX_CONSTRUCTORS.false _ c.present_of-present.ensures.0 c.if-present-q-eq0.false c.if-arity-count.false c.if-not-matches.false

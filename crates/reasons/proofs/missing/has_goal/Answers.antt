-- `has_goal` meets its contract.
use mathlib.Core.Path.{refl, ◌∙◌}
use Rattle.term_check.proofs.check.Learning.{learned_no, learned_yes}
use Rattle.reasons.proofs.missing.Asking.{known_no, known_yes, term_moved}
use Rattle.reasons.proofs.missing.has_goal.Goals as goal

pub returns-then-has_bit : goal.returns-then-has_bit
returns-then-has_bit c = (refl, known_no _ _ _ _ _ _ c.outlook_in-known.ensures _ c.has_bit.ensures c.if-has_bit.true)

pub returns-then-has_bit-2 : goal.returns-then-has_bit-2
returns-then-has_bit-2 c = (refl, known_yes _ _ _ _ _ _ c.outlook_in-known.ensures _ c.has_bit-2.ensures c.if-has_bit-2.true)

pub returns-then-not-check_term : goal.returns-then-not-check_term
returns-then-not-check_term c = (c.learn_in.ensures.0 ∙ c.check_term.ensures.0, term_moved _ _ _ c.args.at c.args.goal _ _ _ _ c.learn_in.ensures.1 (learned_no _ _ _ _ _ _ c.with_bit-bit.ensures _ _ _ c.check_term.ensures.1 _ c.if-not-check_term.true c.learn_in.ensures.2))

pub returns : goal.returns
returns c = (c.learn_in-2.ensures.0 ∙ c.check_term.ensures.0, term_moved _ _ _ c.args.at c.args.goal _ _ _ _ c.learn_in-2.ensures.1 (learned_yes _ _ _ _ _ _ c.with_bit-bit.ensures _ _ _ c.check_term.ensures.1 _ c.if-not-check_term.false c.learn_in-2.ensures.2))

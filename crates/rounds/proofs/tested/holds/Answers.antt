-- `holds` meets its contract.
use mathlib.Core.Path.{refl, ap, ◌∙◌}
use lib.ListN.{get_or}
use Rattle.rounds.proofs.tested.Placing.{same_none, writes_same}
use Rattle.rounds.proofs.tested.Testing.{tests_before, tests_not}
use Rattle.rounds.proofs.tested.holds.Goals as goal

pub returns-then-r-le-TEST_ANSWERS : goal.returns-then-r-le-TEST_ANSWERS
returns-then-r-le-TEST_ANSWERS c = (refl, same_none _, tests_not _ _ _ _ _ _ _ c.if-r-le-TEST_ANSWERS.true)

pub returns : goal.returns
returns c =
    let w = c.set_test.ensures in
    (c.check_term.ensures.0, writes_same _ _ _ w, tests_before _ _ _ _ _ _ _ _ _ _ _ _ _ _ _ _ w c.own_of-own.ensures.0 (c.place_at-first.ensures.value ∙ ap (λ k. get_or c.args.firsts.now k 0) c.symbol_of.ensures.0) refl refl c.words-words.ensures c.total-total.ensures c.end_of-goal.ensures.0 _ _ c.check_term.ensures.1)

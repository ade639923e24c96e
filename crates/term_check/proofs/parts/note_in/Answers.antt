-- `note_in` meets its contract.
use Rattle.term_check.proofs.parts.Noting.{note_none, note_both}
use Rattle.term_check.proofs.parts.note_in.Goals as goal

pub returns-then-r-le-TEST_ANSWERS : goal.returns-then-r-le-TEST_ANSWERS
returns-then-r-le-TEST_ANSWERS c = note_none _ _ _ c.if-r-le-TEST_ANSWERS.true

pub returns : goal.returns
returns c =
    note_both _ _ _ _ _ _ c.split_of-split.ensures.0 c.put_below.ensures c.put_below-2.ensures

-- `next_in` meets its contract.
use native.Mathlib.Omega.{arith}
use Rattle.marks.proofs.Sets.{passed_none, passed_word, finds_lowest, finds_end, finds_on}
use Rattle.marks.proofs.next_in.Goals as goal

pub returns-then-rest-ne0 : goal.returns-then-rest-ne0
returns-then-rest-ne0 c = finds_lowest (passed_none _ _ _) _ c.word_in-word.ensures (omega arith) c.if-rest-ne0.true _ _ c.lowest.ensures

pub returns-then-end-from-2 : goal.returns-then-end-from-2
returns-then-end-from-2 c = finds_end (passed_word (passed_none _ _ _) _ c.word_in-word.ensures c.if-rest-ne0.false) _ (omega (arith, c.if-end-from-2.true))

pub returns : goal.returns
returns c = finds_on (passed_word (passed_none _ _ _) _ c.word_in-word.ensures c.if-rest-ne0.false) c.next_beyond.ensures

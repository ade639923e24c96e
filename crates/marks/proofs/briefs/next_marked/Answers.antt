-- `next_marked` meets its contract. The invariant: no number from the first on and below n is marked.
use native.Mathlib.Omega.{arith}
use Rattle.marks.proofs.Sets.{passed_none, passed_word, passed_zeros}
use Rattle.marks.proofs.briefs.Passing.{passes_on, marked_end, marked_lowest, brief_past, brief_ends, passes_brief}
use Rattle.marks.proofs.briefs.next_marked.Goals as goal

pub returns-then-rest-ne0 : goal.returns-then-rest-ne0
returns-then-rest-ne0 c = marked_lowest (passes_on c.loop-n.invariant (passed_zeros (passed_none _ _ _) _ c.word_in.ensures (omega arith) c.if-rest-ne0.true)) _ _ c.lowest.ensures

pub returns-then-k-ge-WORD : goal.returns-then-k-ge-WORD
returns-then-k-ge-WORD c = brief_past _ (passes_on c.loop-n.invariant (passed_word (passed_none _ _ _) _ c.word_in.ensures c.if-rest-ne0.false)) (omega arith) _ c.word_in-word.ensures c.if-k-ge-WORD.true _

pub returns-then-others-eq0 : goal.returns-then-others-eq0
returns-then-others-eq0 c = brief_ends _ (passes_on c.loop-n.invariant (passed_word (passed_none _ _ _) _ c.word_in.ensures c.if-rest-ne0.false)) (omega arith) _ c.word_in-word.ensures c.if-others-eq0.true _

pub loop-n-preserved : goal.loop-n-preserved
loop-n-preserved c = passes_brief _ (passes_on c.loop-n.invariant (passed_word (passed_none _ _ _) _ c.word_in.ensures c.if-rest-ne0.false)) (omega arith) _ c.word_in-word.ensures

pub returns : goal.returns
returns c = marked_end c.loop-n.invariant _ c.loop-n-test.false

-- `next_beyond` meets its contract. The invariant: no number from the first on and below n is in the set.
use native.Mathlib.Omega.{arith}
use Rattle.marks.proofs.Sets.{passed_word, passed_quiet, finds_lowest, finds_end}
use Rattle.marks.proofs.next_beyond.Goals as goal

pub returns-then-rest-ne0 : goal.returns-then-rest-ne0
returns-then-rest-ne0 c = finds_lowest c.loop-n.invariant _ c.word_in-word.ensures (omega arith) c.if-rest-ne0.true _ _ c.lowest.ensures

pub returns-then-end-n : goal.returns-then-end-n
returns-then-end-n c = finds_end (passed_word c.loop-n.invariant _ c.word_in-word.ensures c.if-rest-ne0.false) _ (omega (arith, c.if-end-n.true))

pub returns-then-end-n-le-QUIET_BITS : goal.returns-then-end-n-le-QUIET_BITS
returns-then-end-n-le-QUIET_BITS c = finds_end (passed_quiet (passed_word c.loop-n.invariant _ c.word_in-word.ensures c.if-rest-ne0.false) (omega arith) (c.quiet.ensures c.if-quiet.true)) _ (omega (arith, c.if-end-n-le-QUIET_BITS.true))

pub loop-n-preserved-then-quiet : goal.loop-n-preserved-then-quiet
loop-n-preserved-then-quiet c = passed_quiet (passed_word c.loop-n.invariant _ c.word_in-word.ensures c.if-rest-ne0.false) (omega arith) (c.quiet.ensures c.if-quiet.true)

pub loop-n-preserved : goal.loop-n-preserved
loop-n-preserved c = passed_word c.loop-n.invariant _ c.word_in-word.ensures c.if-rest-ne0.false

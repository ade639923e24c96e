use native.Mathlib.Omega.{arith}
use Rattle.record_tests.proofs.type_record.Numbers.{ends_first, ends_last}
use Rattle.record_tests.proofs.type_record.ends_later.Goals as goal

pub returns-then-n-word_at : goal.returns-then-n-word_at
returns-then-n-word_at c up = ends_first _ _ (omega arith) _ c.word_at.ensures.value c.if-n-word_at.true

pub returns-else-n-word_at : goal.returns-else-n-word_at
returns-else-n-word_at c up = ends_last _ _ (omega arith) _ c.word_at.ensures.value (omega arith) (omega arith) _ c.word_at-else-n-word_at.ensures.value up

use Rattle.scheme.specs.Lists.{choose◌then◌else◌}
use mathlib.Core.Path.{sym, ap, ◌∙◌}
use native.Mathlib.Omega.{arith}
use Rattle.record_tests.proofs.sort_record.Codes.{sort_large, sort_from_law, sort_to, sort_rest}
use Rattle.record_tests.proofs.sort_record.test_sort.Goals as goal

pub returns-then-arguments_of-ge-MAX_ARGUMENTS : goal.returns-then-arguments_of-ge-MAX_ARGUMENTS
returns-then-arguments_of-ge-MAX_ARGUMENTS c = λ rs ix sl. sort_large _ _ _ _ _ rs ix sl c.if-p-ne4.false (omega arith) _ _ _ c.word_at-from.ensures.value c.word_at-to.ensures.value c.arguments_of.ensures c.if-arguments_of-ge-MAX_ARGUMENTS.true

pub returns-then-n-from : goal.returns-then-n-from
returns-then-n-from c = λ rs ix sl. sort_from_law _ _ _ _ _ rs ix sl c.if-p-ne4.false (omega arith) _ _ _ c.word_at-from.ensures.value c.word_at-to.ensures.value c.arguments_of.ensures (omega arith) c.if-n-from.true

pub returns-then-n-to : goal.returns-then-n-to
returns-then-n-to c = λ rs ix sl. sort_to _ _ _ _ _ rs ix sl c.if-p-ne4.false (omega arith) _ _ _ c.word_at-from.ensures.value c.word_at-to.ensures.value c.arguments_of.ensures (omega arith) (omega arith) c.if-n-to.true

pub returns-then-repeats : goal.returns-then-repeats
returns-then-repeats c = λ rs ix sl. sym (sort_rest _ _ _ _ _ rs ix sl c.if-p-ne4.false (omega arith) _ _ _ c.word_at-from.ensures.value c.word_at-to.ensures.value c.arguments_of.ensures (omega arith) (omega arith) (omega arith) _ c.repeats.ensures ∙ ap (λ v. choose v then 7 else 0) c.if-repeats.true)

pub returns : goal.returns
returns c = λ rs ix sl. sym (sort_rest _ _ _ _ _ rs ix sl c.if-p-ne4.false (omega arith) _ _ _ c.word_at-from.ensures.value c.word_at-to.ensures.value c.arguments_of.ensures (omega arith) (omega arith) (omega arith) _ c.repeats.ensures ∙ ap (λ v. choose v then 7 else 0) c.if-repeats.false)

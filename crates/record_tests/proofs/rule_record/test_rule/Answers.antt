use mathlib.Core.Path.{sym, ap, ◌∙◌}
use native.Mathlib.Omega.{arith}
use Rattle.record_tests.proofs.rule_record.Codes.{rule_large, rule_none, rule_rest}
use Rattle.scheme.specs.Lists.{choose◌then◌else◌}
use Rattle.record_tests.proofs.rule_record.test_rule.Goals as goal

pub returns-then-p-gt-MAX_BODY : goal.returns-then-p-gt-MAX_BODY
returns-then-p-gt-MAX_BODY c = λ sorts rs co sl cn ix ft fw li. rule_large _ _ _ _ _ _ _ _ rs co sl cn ix ft fw li (omega arith) c.if-p-ne0.false c.if-p-gt-MAX_BODY.true

pub returns-then-nonterminals-n : goal.returns-then-nonterminals-n
returns-then-nonterminals-n c = λ sorts rs co sl cn ix ft fw li. rule_none _ _ _ _ _ _ _ _ rs co sl cn ix ft fw li (omega arith) c.if-p-ne0.false (omega arith) c.if-nonterminals-n.true

pub returns-then-exclude_any : goal.returns-then-exclude_any
returns-then-exclude_any c = λ sorts rs co sl cn ix ft fw li. sym (rule_rest _ _ _ _ _ _ _ _ rs co sl cn ix ft fw li (omega arith) c.if-p-ne0.false (omega arith) _ _ _ c.place_at.ensures.value c.word_at-s.ensures.value c.place_at-2.ensures.value (omega arith) _ c.exclude_any.ensures ∙ ap (λ v. choose v then 6 else 0) c.if-exclude_any.true)

pub returns : goal.returns
returns c = λ sorts rs co sl cn ix ft fw li. sym (rule_rest _ _ _ _ _ _ _ _ rs co sl cn ix ft fw li (omega arith) c.if-p-ne0.false (omega arith) _ _ _ c.place_at.ensures.value c.word_at-s.ensures.value c.place_at-2.ensures.value (omega arith) _ c.exclude_any.ensures ∙ ap (λ v. choose v then 6 else 0) c.if-exclude_any.false)

-- `take_rule` meets its contract.
use mathlib.Core.Path.{refl}
use borrow.Author.Rules.{rules}
use Rattle.casefile.specs.Kinds.{Kind, number}
use Rattle.walk.proofs.kinds.Dispatch.{of_rule}
use Rattle.walk.proofs.kinds.Taking.{refused, plain_added}
use Rattle.walk.proofs.kinds.take_rule.Goals as goal

pub returns-in_err-test_rule : goal.returns-in_err-test_rule
unfolding number
returns-in_err-test_rule c = refused Kind.rule (λ rs known ok. of_rule _ _ _ _ rs known ok _ _ _ c.count_of-n.ensures.value _ _ c.count_of-constructors.ensures.value c.count_of-nonterminals.ensures.value c.test_rule.ensures) c.in_err-test_rule.was (search rules)

pub returns : goal.returns
unfolding number
returns c = plain_added Kind.rule (λ rs known ok. of_rule _ _ _ _ rs known ok _ _ _ c.count_of-n.ensures.value _ _ c.count_of-constructors.ensures.value c.count_of-nonterminals.ensures.value c.test_rule.ensures) c.in_ok-test_rule.was c.add_entry.ensures refl refl

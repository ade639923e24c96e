-- `take_binding` meets its contract.
use mathlib.Core.Path.{refl}
use borrow.Author.Rules.{rules}
use Rattle.casefile.specs.Kinds.{Kind, number}
use Rattle.walk.proofs.kinds.Dispatch.{of_binding}
use Rattle.walk.proofs.kinds.Taking.{refused, plain_added}
use Rattle.walk.proofs.kinds.take_binding.Goals as goal

pub returns-in_err-test_binding : goal.returns-in_err-test_binding
unfolding number
returns-in_err-test_binding c = λ lens. refused Kind.binding (λ rs known ok. of_binding _ _ lens _ rs known ok _ _ _ c.count_of-n.ensures.value _ _ c.count_of-nonterminals.ensures.value c.count_of-types.ensures.value c.test_binding.ensures) c.in_err-test_binding.was (search rules)

pub returns : goal.returns
unfolding number
returns c = λ lens. plain_added Kind.binding (λ rs known ok. of_binding _ _ lens _ rs known ok _ _ _ c.count_of-n.ensures.value _ _ c.count_of-nonterminals.ensures.value c.count_of-types.ensures.value c.test_binding.ensures) c.in_ok-test_binding.was c.add_entry.ensures refl refl

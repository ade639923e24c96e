-- `take_nonterminal` meets its contract.
use mathlib.Core.Path.{refl}
use borrow.Author.Rules.{rules}
use Rattle.casefile.specs.Kinds.{Kind, number}
use Rattle.walk.proofs.kinds.Dispatch.{of_nonterminal}
use Rattle.walk.proofs.kinds.Taking.{refused, plain_added}
use Rattle.walk.proofs.kinds.take_nonterminal.Goals as goal

pub returns-in_err-test_nonterminal : goal.returns-in_err-test_nonterminal
unfolding number
returns-in_err-test_nonterminal c = λ file lens. refused Kind.nonterminal (λ rs known ok. of_nonterminal file _ lens _ rs known ok _ _ _ c.count_of-n.ensures.value _ c.count_of-sorts.ensures.value c.test_nonterminal.ensures) c.in_err-test_nonterminal.was (search rules)

pub returns : goal.returns
unfolding number
returns c = λ file lens. plain_added Kind.nonterminal (λ rs known ok. of_nonterminal file _ lens _ rs known ok _ _ _ c.count_of-n.ensures.value _ c.count_of-sorts.ensures.value c.test_nonterminal.ensures) c.in_ok-test_nonterminal.was c.add_entry.ensures refl refl

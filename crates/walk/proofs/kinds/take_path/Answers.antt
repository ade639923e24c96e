-- `take_path` meets its contract.
use mathlib.Core.Path.{refl}
use borrow.Author.Rules.{rules}
use Rattle.casefile.specs.Kinds.{Kind, number}
use Rattle.walk.proofs.kinds.Dispatch.{of_count}
use Rattle.walk.proofs.kinds.Taking.{refused, plain_added}
use Rattle.walk.proofs.kinds.take_path.Goals as goal

pub returns-in_err-test_path : goal.returns-in_err-test_path
unfolding number
returns-in_err-test_path c = λ file lens. refused Kind.path (λ rs known ok. of_count file _ lens _ rs known ok _ Kind.path _ c.count_of-n.ensures.value _ c.test_path.ensures) c.in_err-test_path.was (search rules)

pub returns : goal.returns
unfolding number
returns c = λ file lens. plain_added Kind.path (λ rs known ok. of_count file _ lens _ rs known ok _ Kind.path _ c.count_of-n.ensures.value _ c.test_path.ensures) c.in_ok-test_path.was c.add_entry.ensures refl refl

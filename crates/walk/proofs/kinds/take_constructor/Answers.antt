-- `take_constructor` meets its contract.
use mathlib.Core.Path.{refl}
use borrow.Author.Rules.{rules}
use Rattle.casefile.specs.Kinds.{Kind, number}
use Rattle.walk.proofs.kinds.Dispatch.{of_count}
use Rattle.walk.proofs.kinds.Taking.{refused, plain_added}
use Rattle.walk.proofs.kinds.take_constructor.Goals as goal

pub returns-in_err-test_constructor : goal.returns-in_err-test_constructor
unfolding number
returns-in_err-test_constructor c = λ file lens. refused Kind.constructor (λ rs known ok. of_count file _ lens _ rs known ok _ Kind.constructor _ c.count_of-n.ensures.value _ c.test_constructor.ensures) c.in_err-test_constructor.was (search rules)

pub returns : goal.returns
unfolding number
returns c = λ file lens. plain_added Kind.constructor (λ rs known ok. of_count file _ lens _ rs known ok _ Kind.constructor _ c.count_of-n.ensures.value _ c.test_constructor.ensures) c.in_ok-test_constructor.was c.add_entry.ensures refl refl

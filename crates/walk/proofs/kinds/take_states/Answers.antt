-- `take_states` meets its contract.
use mathlib.Core.Path.{refl}
use borrow.Author.Rules.{rules}
use Rattle.casefile.specs.Kinds.{Kind, number}
use Rattle.walk.proofs.kinds.Dispatch.{of_count}
use Rattle.walk.proofs.kinds.Taking.{refused, plain_added}
use Rattle.walk.proofs.kinds.take_states.Goals as goal

pub returns-in_err-test_states : goal.returns-in_err-test_states
unfolding number
returns-in_err-test_states c = λ file lens. refused Kind.states (λ rs known ok. of_count file _ lens _ rs known ok _ Kind.states _ c.count_of-n.ensures.value _ c.test_states.ensures) c.in_err-test_states.was (search rules)

pub returns : goal.returns
unfolding number
returns c = λ file lens. plain_added Kind.states (λ rs known ok. of_count file _ lens _ rs known ok _ Kind.states _ c.count_of-n.ensures.value _ c.test_states.ensures) c.in_ok-test_states.was c.add_entry.ensures refl refl

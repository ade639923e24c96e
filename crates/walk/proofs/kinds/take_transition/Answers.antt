-- `take_transition` meets its contract.
use mathlib.Core.Path.{refl}
use borrow.Author.Rules.{rules}
use Rattle.casefile.specs.Kinds.{Kind, number}
use Rattle.walk.proofs.kinds.Dispatch.{of_transition, states_are}
use Rattle.walk.proofs.kinds.Taking.{refused, plain_added}
use Rattle.walk.proofs.kinds.take_transition.Goals as goal

pub returns-in_err-test_transition : goal.returns-in_err-test_transition
unfolding number
returns-in_err-test_transition c = λ lens. refused Kind.transition (λ rs known ok. of_transition _ _ lens _ rs known ok _ _ _ c.count_of-n.ensures.value _ _ (states_are _ _ lens _ rs known ok _ _ c.count_of.ensures.value c.state_count-states.ensures) c.count_of-constructors.ensures.value c.test_transition.ensures) c.in_err-test_transition.was (search rules)

pub returns : goal.returns
unfolding number
returns c = λ lens. plain_added Kind.transition (λ rs known ok. of_transition _ _ lens _ rs known ok _ _ _ c.count_of-n.ensures.value _ _ (states_are _ _ lens _ rs known ok _ _ c.count_of.ensures.value c.state_count-states.ensures) c.count_of-constructors.ensures.value c.test_transition.ensures) c.in_ok-test_transition.was c.add_entry.ensures refl refl

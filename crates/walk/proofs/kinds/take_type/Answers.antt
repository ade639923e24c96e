-- `take_type` meets its contract.
use mathlib.Core.Path.{refl}
use borrow.Author.Rules.{rules}
use Rattle.casefile.specs.Kinds.{Kind, number}
use Rattle.walk.proofs.kinds.Dispatch.{of_type_law, states_are}
use Rattle.walk.proofs.kinds.Taking.{refused, type_added}
use Rattle.walk.proofs.kinds.take_type.Goals as goal

pub returns-in_err-test_type : goal.returns-in_err-test_type
unfolding number
returns-in_err-test_type c = λ lens. refused Kind.type (λ rs known ok. of_type_law _ _ lens _ rs known ok _ _ _ c.count_of-n.ensures.value _ (states_are _ _ lens _ rs known ok _ _ c.count_of.ensures.value c.state_count-states.ensures) (c.test_type.ensures c.hash_of-h.ensures)) c.in_err-test_type.was (search rules)

pub returns : goal.returns
unfolding number
returns c = λ lens. type_added Kind.type (λ rs known ok. of_type_law _ _ lens _ rs known ok _ _ _ c.count_of-n.ensures.value _ (states_are _ _ lens _ rs known ok _ _ c.count_of.ensures.value c.state_count-states.ensures) (c.test_type.ensures c.hash_of-h.ensures)) c.in_ok-test_type.was c.add_entry.ensures c.count_of-n.ensures.value refl (c.enter_type.ensures c.count_of-n.ensures.bound _ c.hash_of-h.ensures)

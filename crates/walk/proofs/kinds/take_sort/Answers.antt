-- `take_sort` meets its contract.
use mathlib.Core.Path.{refl}
use borrow.Author.Rules.{rules}
use Rattle.casefile.specs.Kinds.{Kind, number}
use Rattle.walk.proofs.kinds.Dispatch.{of_sort}
use Rattle.walk.proofs.kinds.Taking.{refused, sort_added}
use Rattle.walk.proofs.kinds.take_sort.Goals as goal

pub returns-in_err-test_sort : goal.returns-in_err-test_sort
unfolding number
returns-in_err-test_sort c = refused Kind.sort (λ rs known ok. of_sort _ _ _ _ rs known ok _ _ _ c.count_of-n.ensures.value c.test_sort.ensures) c.in_err-test_sort.was (search rules)

pub returns : goal.returns
unfolding number
returns c = sort_added Kind.sort (λ rs known ok. of_sort _ _ _ _ rs known ok _ _ _ c.count_of-n.ensures.value c.test_sort.ensures) c.in_ok-test_sort.was c.add_entry.ensures c.count_of-n.ensures.value refl (c.enter_sort.ensures c.count_of-n.ensures.bound)

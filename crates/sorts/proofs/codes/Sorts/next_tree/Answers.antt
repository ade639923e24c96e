-- `next_tree` meets its contract.
use Rattle.std.proofs.lemmas.Result.{Ok-from_Ok_iff}
use Rattle.sorts.proofs.codes.Codes.{next_unlisted, next_listed, next_missing}
use Rattle.sorts.proofs.codes.Sorts.next_tree.Goals as goal

pub returns-then-code-ge1000 : goal.returns-then-code-ge1000
returns-then-code-ge1000 c = λ sorts m w long h e d. next_unlisted w m _ _ h e c.if-code-ge1000.true d

pub returns-in-Some : goal.returns-in-Some
returns-in-Some c = λ sorts m w long h e d. next_listed w m _ _ _ long c.if-code-ge1000.false c.arrow_to.ensures c.in-Some.is (λ k. let e = Ok-from_Ok_iff _ _ _ c.try_from.ensures k in rw e at c.unwrap_or.ensures) d

pub returns-in-None : goal.returns-in-None
returns-in-None c = λ sorts m w long h e d. next_missing w m _ _ long h e c.if-code-ge1000.false c.arrow_to.ensures c.in-None.is d

-- `counts_wrong` meets its contract.
use borrow.Author.Rules.{rules}
use Rattle.intake.proofs.plan.Contents.{counted_as}
use Rattle.intake.proofs.plan.counts_wrong.Goals as goal

pub returns-then-nonterminals-eq0 : goal.returns-then-nonterminals-eq0
returns-then-nonterminals-eq0 c = λ file index lens rs kn. rw (counted_as kn _ _ _ c.count_of-states.ensures.value c.count_of-nonterminals.ensures.value c.count_of-rules.ensures.value) (search rules)

pub returns-else-nonterminals-eq0 : goal.returns-else-nonterminals-eq0
returns-else-nonterminals-eq0 c = λ file index lens rs kn. rw (counted_as kn _ _ _ c.count_of-states.ensures.value c.count_of-nonterminals.ensures.value c.count_of-rules.ensures.value) (search rules)

-- `freshen` meets its contract.
use Rattle.rounds.proofs.tested.Placing.{fresh_next, fresh_part}
use Rattle.rounds.proofs.tested.Clearing.{zeroed}
use Rattle.rounds.proofs.tested.freshen.Goals as goal

pub returns-then-last-lt-LAST_TEST : goal.returns-then-last-lt-LAST_TEST
returns-then-last-lt-LAST_TEST c = fresh_next _ _ _

pub returns : goal.returns
returns c = fresh_part _ _ _ c.split_of-split.ensures.0 c.split_of-split.ensures.1 _ (zeroed _ _ (c.fill.ensures.after (λ y e. e))) _

-- `plan_judge` meets its contract.
use Rattle.capi.proofs.Exporting.{exported}
use Rattle.capi.proofs.plan_judge.Goals as goal

pub returns : goal.returns
returns c = exported _ _ _ _ (c.judge.ensures.demand1, (c.judge.ensures.demand2, c.judge.ensures.demand3)) _ c.words_of-words.ensures

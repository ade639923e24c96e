-- `parameter_sorts` meets its contract: the sorts before j are listed, and the arguments of sort s are the other parameters.
use Rattle.sorts.proofs.steps.Parameters.{list_more, list_stop, list_all}
use Rattle.sorts.proofs.codes.Sorts.parameter_sorts.Goals as goal

pub returns-then-s-eq0 : goal.returns-then-s-eq0
returns-then-s-eq0 c = list_stop _ _ _ _ _ c.loop-j.invariant c.if-s-eq0.true

pub loop-j-preserved : goal.loop-j-preserved
loop-j-preserved c = list_more _ _ _ _ _ c.loop-j.invariant _ _ c.loop-j-test.true c.place_at.ensures.value c.place_at-s.ensures.value

pub returns : goal.returns
returns c = list_all _ _ _ _ _ c.loop-j.invariant c.loop-j-test.false

use Rattle.walk.proofs.kinds.States.{no_states, some_states}
use Rattle.walk.proofs.kinds.state_count.Goals as goal

pub returns-then-n-eq0 : goal.returns-then-n-eq0
returns-then-n-eq0 c = λ rs ix ft few. no_states _ _ _ rs ix c.if-n-eq0.true

pub returns-else-n-eq0 : goal.returns-else-n-eq0
returns-else-n-eq0 c = λ rs ix ft few. some_states _ _ _ rs ix c.if-n-eq0.false few ft _ _ c.place_at.ensures.value c.byte_at.ensures.value

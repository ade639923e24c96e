-- `search` meets its contract.
use mathlib.Core.Path.{subst, ◌∙◌}
use Rattle.std.specs.Prelude.{None}
use Rattle.reasons.specs.Searching.{Steps}
use Rattle.reasons.proofs.Searching.{come_past, come_end}
use Rattle.reasons.proofs.search.Goals as goal

pub returns-in_default-2 : goal.returns-in_default-2
returns-in_default-2 c = (c.step.ensures.0 ∙ c.loop-reason.invariant.0, come_end _ _ _ _ c.loop-reason.invariant.1 _ _ None (subst (Steps _ _ _ _ _ _ _) c.in_default.is c.step.ensures.1) tt)

pub returns : goal.returns
returns c = (c.loop-reason.invariant.0, come_past _ _ _ _ c.loop-reason.invariant.1 c.loop-reason-test.false)

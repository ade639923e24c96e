-- `fill_groups` meets its contract.
use native.Mathlib.Omega.{arith}
use Rattle.goals.proofs.groups.Grouping.{group_all}
use Rattle.goals.proofs.groups.fill_groups.Goals as goal

pub returns : goal.returns
returns c = group_all _ _ _ _ _ _ _ _ c.loop-f.invariant (omega arith)

-- `next_leading` meets its contract. The invariant: the bindings that are passed do not lead to the goal.
use Prim.Native.Nat.{◌-◌, ◌≤◌}
use Rattle.tables.specs.reading.Cells.{group_of}
use Rattle.term_check.specs.Worlds.{case_of}
use Rattle.term_check.proofs.heads.Next.{Before}
use Rattle.term_check.proofs.heads.next_leading.Given as goal

abbrev pub invariant-loop-next : goal.invariant-loop-next
invariant-loop-next l = (l.from ≤ l.next) × (group_of l.t l.node.number ≤ l.from → Before (case_of l.t l.r) l.node l.goal l.from l.next)

abbrev pub decreases-loop-next : goal.decreases-loop-next
decreases-loop-next l = l.high - l.next

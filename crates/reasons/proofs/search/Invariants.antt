-- `search` meets its contract. The invariant: the search comes to the same from the node and the goal on that it has come to.
use Prim.Native.Nat.{◌-◌}
use mathlib.Core.Path.{◌≡◌}
use lib.ListN.{length}
use Rattle.index.specs.layout.Layout.{max_nodes}
use Rattle.term_check.specs.Worlds.{case_of, answers_of, users_of}
use Rattle.reasons.proofs.Searching.{Come}
use Rattle.reasons.proofs.search.Given as goal

abbrev pub invariant-loop-reason : goal.invariant-loop-reason
invariant-loop-reason l = (length l.w ≡ length l.initial.w) × Come (case_of l.t l.r) (answers_of l.r l.initial.w) (users_of l.r l.initial.w) l.goal (answers_of l.r l.w) (users_of l.r l.w) l.reason.node l.reason.goal

abbrev pub decreases-loop-reason : goal.decreases-loop-reason
decreases-loop-reason l = max_nodes - l.reason.node

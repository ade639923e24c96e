-- `shrink` meets its contract. The invariant: the rounds that are left lead to what the definitions say, and what is not marked
-- rests on its notes.
use Prim.Native.Nat.{◌+◌, ◌≤◌}
use mathlib.Core.Path.{◌≡◌}
use lib.ListN.{length, drop}
use Rattle.index.specs.layout.Layout.{test_cells}
use Rattle.term_check.specs.Worlds.{answers_of, users_of}
use Rattle.rounds.specs.tested.Tested.{Placed}
use Rattle.rounds.proofs.shrinking.Going.{Going}
use Rattle.rounds.proofs.shrinking.shrink.Given as goal

abbrev pub invariant-loop-rounds : goal.invariant-loop-rounds
invariant-loop-rounds l = (l.rounds ≤ l.total + 1) × (length l.w ≡ length l.initial.w) × Placed l.initial.r l.r × Going l.t l.firsts l.sizes (drop test_cells l.initial.r) (answers_of l.initial.r l.initial.w) (users_of l.initial.r l.initial.w) l.initial.flags (drop test_cells l.r) (answers_of l.initial.r l.w) (users_of l.initial.r l.w) l.flags l.todo l.rounds l.last

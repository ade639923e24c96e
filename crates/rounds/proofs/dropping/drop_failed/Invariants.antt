-- `drop_failed` meets its contract. The invariant: all that failed below b are dropped, and b failed.
use Prim.Native.Nat.{ℕ, ◌-◌, ◌<◌}
use mathlib.Core.List.{List}
use lib.ListN.{drop}
use Rattle.index.specs.layout.Layout.{test_cells}
use Rattle.marks.specs.Marks.{In}
use Rattle.term_check.specs.Worlds.{users_of}
use Rattle.rounds.specs.tested.Tested.{Placed}
use Rattle.rounds.proofs.dropping.Gone.{Dropped}
use Rattle.rounds.proofs.dropping.drop_failed.Given as goal

abbrev pub invariant-loop-b : goal.invariant-loop-b
invariant-loop-b l = (l.b < l.n.past → In l.failed 0 l.b) × Placed l.initial.r l.r × ((firsts : List ℕ) → Dropped l.t firsts (users_of l.initial.r l.w) l.sizes l.failed (drop test_cells l.initial.r) l.initial.flags l.initial.todo l.n.least l.n.past (drop test_cells l.r) l.flags l.todo l.b)

abbrev pub decreases-loop-b : goal.decreases-loop-b
decreases-loop-b l = l.n.past - l.b

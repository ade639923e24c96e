-- `turn` meets its contract. The invariant: all marked bindings below b are tested.
use Prim.Native.Nat.{◌-◌, ◌≤◌}
use mathlib.Core.Path.{◌≡◌}
use lib.ListN.{length, drop}
use Rattle.index.specs.layout.Layout.{test_cells}
use Rattle.term_check.specs.Worlds.{answers_of, users_of}
use Rattle.rounds.specs.tested.Tested.{Same}
use Rattle.rounds.proofs.shrinking.Turning.{Turning}
use Rattle.rounds.proofs.shrinking.turn.Given as goal

abbrev pub invariant-loop-b : goal.invariant-loop-b
invariant-loop-b l = (l.b ≤ l.total) × (length l.w ≡ length l.initial.w) × Same l.initial.r l.r × Turning l.t (drop test_cells l.initial.r) l.firsts l.sizes l.flags l.todo (answers_of l.initial.r l.initial.w) (users_of l.initial.r l.initial.w) l.initial.failed l.last (answers_of l.initial.r l.w) (users_of l.initial.r l.w) l.failed l.n l.b

abbrev pub decreases-loop-b : goal.decreases-loop-b
decreases-loop-b l = l.total - l.b

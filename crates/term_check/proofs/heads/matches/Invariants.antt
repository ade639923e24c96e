-- `matches` meets its contract. The invariant: what is asked of the goal is what is asked of what is left of it.
use Prim.Native.Nat.{◌-◌}
use mathlib.Core.Bool.{Bool}
use Rattle.term_check.specs.heads.Heads.{Matches}
use Rattle.term_check.proofs.heads.matches.Given as goal

abbrev pub invariant-loop : goal.invariant-loop
invariant-loop l = (r : Bool) → Matches l.t l.g l.rest (l.left - l.counter) r → Matches l.t l.goal l.targets l.left r

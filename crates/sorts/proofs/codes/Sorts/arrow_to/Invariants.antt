-- `arrow_to` meets its contract: no sort before i is the one looked for.
use Prim.Native.Nat.{ℕ, ◌<◌}
use mathlib.Core.Path.{◌≡◌}
use lib.ListN.{get_or}
use Rattle.sorts.proofs.codes.Sorts.arrow_to.Given as goal

abbrev pub invariant-loop-i : goal.invariant-loop-i
invariant-loop-i l = (k : ℕ) → k < l.i → 0 < k → get_or l.self.froms.now k 0 ≡ 0 → get_or l.self.tos.now k 0 ≡ l.to → ⊥

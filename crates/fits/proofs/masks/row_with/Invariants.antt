-- `row_with` meets its contract. The invariant: what each union lacks still is in the bits that are left.
use Prim.Native.Nat.{◌≤◌}
use Rattle.fits.proofs.masks.Uniting.{UnitedTo}
use Rattle.fits.proofs.masks.row_with.Given as goal

abbrev pub invariant-loop-left : goal.invariant-loop-left
invariant-loop-left l = (l.left ≤ l.sorts) × UnitedTo l.tos l.sorts l.results l.left × UnitedTo l.froms l.sorts l.arguments l.left

abbrev pub decreases-loop-left : goal.decreases-loop-left
decreases-loop-left l = l.left

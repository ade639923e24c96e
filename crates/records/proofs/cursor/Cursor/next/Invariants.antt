-- `Cursor::next` meets its contract. The invariant: what is read from the place in hand on is what is read from the cursor on. The
-- measure: the bytes that are left.
use Prim.Native.Nat.{◌-◌}
use mathlib.Core.Path.{◌≡◌}
use lib.ListN.{length}
use Rattle.records.specs.cursor.Reading.{read_at}
use Rattle.records.proofs.cursor.Cursor.next.Given as goal

abbrev pub invariant-loop-at : goal.invariant-loop-at
invariant-loop-at l = read_at l.file l.initial.at ≡ read_at l.file l.at

abbrev pub decreases-loop-at : goal.decreases-loop-at
decreases-loop-at l = length l.file - l.at

-- What the loop keeps: the reader holds the file, and the walk is under way at its place, in the tables.
use Prim.Native.Nat.{◌-◌, ◌≤◌}
use mathlib.Core.Path.{◌≡◌}
use lib.ListN.{length}
use Rattle.index.specs.layout.Layout.{max_file}
use Rattle.walk.specs.walk.Walking.{Walking}
use Rattle.walk.proofs.walk.pass.Given as goal

abbrev pub invariant-loop-record : goal.invariant-loop-record
invariant-loop-record l =
    (l.reader.file.now ≡ l.fn.file)
    × (length l.fn.file ≤ max_file → Walking l.fn.file l.fn.index l.fn.lens l.fn.counts 0 0 → Walking l.fn.file l.index l.lens l.counts l.reader.at l.last)

abbrev pub decreases-loop-record : goal.decreases-loop-record
decreases-loop-record l = length l.fn.file - l.reader.at

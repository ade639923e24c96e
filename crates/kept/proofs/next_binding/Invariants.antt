-- The measure: the bytes of the file behind the cursor.
use Rattle.std.proofs.Common.{◌-◌, length}
use Rattle.kept.proofs.next_binding.Given as goal

abbrev pub decreases-loop-record : goal.decreases-loop-record
decreases-loop-record l = length l.file - l.cursor.at

-- `scan` meets its contract: the tables hold the nodes from i on, and `next` the first of them.
use native.Mathlib.Omega.{arith}
use mathlib.Core.Path.{refl}
use Rattle.bodies.proofs.Scanning.{held_past, scan_start}
use Rattle.bodies.proofs.Heads.scan.Goals as goal

pub loop-i-init : goal.loop-i-init
loop-i-init c = let q = c.requires.room in record { held = scan_start _ refl q.few q.codes_long q.depths_long; first = held_past (omega arith) }

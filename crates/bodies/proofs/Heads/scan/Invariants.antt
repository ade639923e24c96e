-- `scan` meets its contract: the tables hold the nodes from i on, and `next` the first of them.
use Prim.Native.Nat.{◌/◌}
use lib.ListN.{length}
use Rattle.bodies.specs.Bodies.{HeldAs}
use Rattle.bodies.proofs.Scanning.{Scanning}
use Rattle.bodies.proofs.Heads.scan.Given as goal

abbrev pub invariant-loop-i : goal.invariant-loop-i
invariant-loop-i l = record {
  held : Scanning l.p l.self l.own l.initial.ends l.ends l.codes l.depths l.i;
  first : HeldAs l.ends l.codes l.depths (length l.p / 4) l.i l.next;
}

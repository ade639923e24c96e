-- `measure` meets its contract. The invariant: the terms that are left stand from `next` on.
use Prim.Native.Nat.{◌-◌}
use Rattle.closures.proofs.closures.Measuring.{Measuring}
use Rattle.index.specs.layout.Layout.{place_units}
use Rattle.closures.proofs.closures.measure.Given as goal

abbrev pub invariant-loop-need : goal.invariant-loop-need
invariant-loop-need l = Measuring l.file l.cells l.at l.frame.block l.frame.count l.next l.need l.nodes

abbrev pub decreases-loop-need : goal.decreases-loop-need
decreases-loop-need l = place_units - l.next

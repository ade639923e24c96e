use Prim.Native.Nat.{◌*◌}
use Rattle.record_tests.proofs.type_record.Numbers.{Ascends}
use Rattle.record_tests.proofs.type_record.members_ascend.Given as goal

abbrev pub invariant-loop-i : goal.invariant-loop-i
invariant-loop-i l = Ascends l.p l.last (2 * l.i)

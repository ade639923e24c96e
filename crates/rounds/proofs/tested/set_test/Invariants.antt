-- `set_test` meets its contract. The invariant: the numbers before k are written.
use Rattle.rounds.proofs.tested.Placing.{Written}
use Rattle.rounds.proofs.tested.set_test.Given as goal

abbrev pub invariant-loop-k : goal.invariant-loop-k
invariant-loop-k l = Written l.test l.initial.r l.r l.k

-- `parameter` meets its contract: with some arguments behind, the next of sort s are the parameters that are left before the one looked for.
use Prim.Native.Nat.{◌-◌}
use Rattle.sorts.proofs.steps.Parameters.{Along}
use Rattle.sorts.proofs.codes.Sorts.parameter.Given as goal

abbrev pub invariant-loop : goal.invariant-loop
invariant-loop l = Along l.self l.own l.j l.s (l.j - l.counter)

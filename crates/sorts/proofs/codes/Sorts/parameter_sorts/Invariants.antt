-- `parameter_sorts` meets its contract: the sorts before j are listed, and the arguments of sort s are the other parameters.
use Rattle.sorts.proofs.steps.Parameters.{Listing}
use Rattle.sorts.proofs.codes.Sorts.parameter_sorts.Given as goal

abbrev pub invariant-loop-j : goal.invariant-loop-j
invariant-loop-j l = Listing l.self l.own l.s l.j l.sorts

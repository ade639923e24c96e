-- `off` meets its contract.
use Rattle.tables.proofs.reading.Offs.{Left}
use Rattle.tables.proofs.reading.off.Given as goal

abbrev pub invariant-loop : goal.invariant-loop
invariant-loop l = Left l.t l.goal l.k l.g l.counter

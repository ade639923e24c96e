-- `run` meets its contract. The invariant: the letters from number i on lead to what all lead to.
use Rattle.replay.proofs.replay.Running.{Running}
use Rattle.replay.proofs.replay.run.Given as goal

abbrev pub invariant-loop-place : goal.invariant-loop-place
invariant-loop-place l = Running l.tables.file.now l.tables.index.now l.tables.rules l.tables.constructors l.table l.path l.initial.cells l.cells l.held l.place-counter

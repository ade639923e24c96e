-- The number so far is within the limit.
use Rattle.std.proofs.Common.{◌≤◌}
use Rattle.test_files.proofs.decimal.Given as goal

abbrev pub invariant-loop-letter : goal.invariant-loop-letter
invariant-loop-letter l = l.n ≤ 1024

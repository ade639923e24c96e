-- `target_for` meets its contract.
use native.Mathlib.Omega.{arith}
use Rattle.replay.proofs.letters.Arguments.{target_none, target_past}
use Rattle.replay.proofs.letters.target_for.Goals as goal

pub returns-in_err-targets : goal.returns-in_err-targets
returns-in_err-targets c = rw (c.in_err-targets.was, c.from_residual.ensures) target_none

pub returns-then-count-i : goal.returns-then-count-i
returns-then-count-i c = rw c.in_ok-targets.was (target_past _ (omega arith))

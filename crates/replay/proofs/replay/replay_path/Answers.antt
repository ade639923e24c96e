-- `replay_path` meets its contract.
use native.Mathlib.Omega.{arith}
use Rattle.replay.proofs.replay.replay_path.Goals as goal

pub returns-else-letters-le-LONG_PATH : goal.returns-else-letters-le-LONG_PATH
returns-else-letters-le-LONG_PATH c = c.path_within-else-letters-le-LONG_PATH.ensures.answered (λ few. omega arith)

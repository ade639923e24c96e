-- `left_of` meets its contract.
use native.Mathlib.Omega.{arith}
use Rattle.term_check.proofs.masks.Words.{bits_left}
use Rattle.term_check.proofs.masks.left_of.Goals as goal

pub returns : goal.returns
returns c = bits_left _ _ (omega arith) (omega arith)

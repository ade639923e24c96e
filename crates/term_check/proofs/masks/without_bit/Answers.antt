-- `without_bit` meets its contract.
use native.Mathlib.Omega.{arith}
use Rattle.term_check.proofs.masks.Words.{bit_out}
use Rattle.term_check.proofs.masks.without_bit.Goals as goal

pub returns : goal.returns
returns c = bit_out _ _ (omega arith)

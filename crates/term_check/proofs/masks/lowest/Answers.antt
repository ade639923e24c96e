-- `lowest` meets its contract.
use native.Mathlib.Omega.{arith}
use Rattle.term_check.proofs.masks.Words.{lowest_bit}
use Rattle.term_check.proofs.masks.lowest.Goals as goal

pub returns : goal.returns
returns c = lowest_bit _ (omega arith)

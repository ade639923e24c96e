-- `put_in` meets its contract.
use native.Mathlib.Omega.{arith}
use Rattle.marks.proofs.Sets.{puts_here}
use Rattle.marks.proofs.put_in.Goals as goal

pub returns : goal.returns
returns c = puts_here _ _ _ (omega arith)

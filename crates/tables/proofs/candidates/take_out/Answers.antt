-- `take_out` meets its contract.
use native.Mathlib.Omega.{arith}
use Rattle.marks.proofs.Sets.{takes_here}
use Rattle.tables.proofs.candidates.take_out.Goals as goal

pub returns : goal.returns
returns c = takes_here _ _ _ (omega (arith, c.if-words-at.false, c.if-words-at-2.false))

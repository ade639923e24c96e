-- `arity_of` meets its contract.
use native.Mathlib.Omega.{arith}
use Rattle.transitions.proofs.rows.Rows.{arity_past, arity_there}
use Rattle.transitions.proofs.rows.arity_of.Goals as goal

pub returns-then-constructors-c : goal.returns-then-constructors-c
returns-then-constructors-c c = arity_past (omega arith)

pub returns : goal.returns
returns c = arity_there c.if-constructors-c.false _ _ c.place_at.ensures.value c.byte_at.ensures.value

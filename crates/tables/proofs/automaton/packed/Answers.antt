-- `packed` meets its contract.
use Rattle.tables.proofs.automaton.Filling.{packed_is}
use native.Mathlib.Omega.{arith}
use Rattle.tables.proofs.automaton.packed.Goals as goal

pub returns : goal.returns
returns c = (packed_is _ _ _ _ _ _ c.byte_at-first.ensures.value c.byte_at-second.ensures.value c.byte_at-third.ensures.value c.byte_at-fourth.ensures.value, omega arith)

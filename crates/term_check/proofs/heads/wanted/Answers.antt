-- `wanted` meets its contract.
use native.Mathlib.Omega.{arith}
use Rattle.term_check.proofs.heads.Wanting.{wanted_beyond, wanted_where}
use Rattle.term_check.proofs.heads.wanted.Goals as goal
use Rattle.term_check.proofs.heads.wanted.Goals.{then-g-lt-WORD, else-g-lt-WORD}

pub returns : goal.returns
returns c =
    rw c.then_some.ensures (elim c.if-g-lt-WORD.branch [
      | then-g-lt-WORD w ↦ rw w.then_some-is (wanted_where _ _ _ _ _ c.off-g.ensures (omega arith) _ w.has_bit.ensures)
      | else-g-lt-WORD w ↦ rw w.then_some-is (wanted_beyond _ _ _ _ _ c.off-g.ensures (omega arith) (omega arith))
    ])

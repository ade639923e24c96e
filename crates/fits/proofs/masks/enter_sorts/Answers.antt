-- `enter_sorts` meets its contract. The invariant: the first i sorts are marked, where the table was empty.
use native.Mathlib.Omega.{arith}
use Rattle.fits.proofs.masks.Marking.{marked_none, marked_past, marked_more}
use Rattle.fits.proofs.masks.enter_sorts.Goals as goal
use Rattle.fits.proofs.masks.enter_sorts.Goals.{then-number-le-MAX_SORTS, else-number-le-MAX_SORTS}

pub loop-i-init : goal.loop-i-init
loop-i-init c = marked_none _ _ _ _

pub loop-i-preserved : goal.loop-i-preserved
loop-i-preserved c =
    let l = c.loop-i in
    λ e. elim c.if-number-le-MAX_SORTS.branch [
      | then-number-le-MAX_SORTS w ↦ marked_more _ _ _ l.masks l.i _ _ (l.invariant e) c.place_at.ensures.value c.word_at-number.ensures.value _ w.masks-is (omega arith) w.if-number-le-MAX_SORTS.true
      | else-number-le-MAX_SORTS w ↦ marked_past _ _ _ l.masks l.i _ _ (l.invariant e) c.place_at.ensures.value c.word_at-number.ensures.value _ w.masks-is w.if-number-le-MAX_SORTS.false
    ]

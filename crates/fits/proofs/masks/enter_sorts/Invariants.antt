-- `enter_sorts` meets its contract. The invariant: the first i sorts are marked, where the table was empty.
use Rattle.fits.specs.masks.Masks.{Empty}
use Rattle.fits.proofs.masks.Marking.{MarkedTo}
use Rattle.fits.proofs.masks.enter_sorts.Given as goal

abbrev pub invariant-loop-i : goal.invariant-loop-i
invariant-loop-i l = Empty l.initial.masks → MarkedTo l.file l.index l.at l.masks l.i

-- `first_misfit` meets its contract. The invariant: the bindings before i fit.
use Rattle.fits.proofs.misfits.Misfits.{FitTo}
use Rattle.fits.proofs.misfits.first_misfit.Given as goal

abbrev pub invariant-loop-i : goal.invariant-loop-i
invariant-loop-i l = FitTo l.file l.index l.fit l.bindings l.i

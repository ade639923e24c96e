-- `first_misfit` meets its contract. The invariant: the bindings before i fit.
use Rattle.fits.proofs.misfits.Misfits.{fit_stop, fit_more}
use Rattle.fits.proofs.misfits.first_misfit.Goals as goal

pub returns-then-not-fits_sort-clause-first : goal.returns-then-not-fits_sort-clause-first
returns-then-not-fits_sort-clause-first c =
    fit_stop _ _ _ _ _ _ _ _ _ _ _ c.loop-i.invariant c.loop-i-test.true c.place_at-place.ensures.value c.word_at-f.ensures.value c.word_at-t.ensures.value c.place_at.ensures.value c.word_at-s.ensures.value c.fits_sort.ensures c.if-not-fits_sort.true

pub loop-i-preserved : goal.loop-i-preserved
loop-i-preserved c =
    fit_more _ _ _ _ _ _ _ _ _ _ _ c.loop-i.invariant c.loop-i-test.true c.place_at-place.ensures.value c.word_at-f.ensures.value c.word_at-t.ensures.value c.place_at.ensures.value c.word_at-s.ensures.value c.fits_sort.ensures c.if-not-fits_sort.false

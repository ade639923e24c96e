-- `fits_sort` meets its contract.
use mathlib.Core.Path.{ap}
use Rattle.fits.specs.declared.masks.Row.{Row}
use Rattle.fits.proofs.misfits.Misfits.{tree_tested, listed_tested}
use Rattle.fits.proofs.misfits.fits_sort.Goals as goal

pub returns-then-s-eq0 : goal.returns-then-s-eq0
returns-then-s-eq0 c = tree_tested _ _ c.args.fit.now _ _ _ _ c.if-s-eq0.true c.place_at.ensures.value c.length_at.ensures

pub returns : goal.returns
returns c = listed_tested _ _ c.args.fit.now _ _ _ c.if-s-eq0.false (ap (λ (row : Row). row.sorts) c.row_at.ensures)

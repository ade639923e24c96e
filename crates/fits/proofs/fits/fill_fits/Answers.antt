-- `fill_fits` meets its contract. The invariant: the rows before t are there.
use native.Mathlib.Omega.{arith}
use mathlib.Core.Path.{refl, ◌∙◌}
use lib.ListN.{length-set}
use Rattle.fits.proofs.fits.Filling.{fitted_more}
use Rattle.fits.proofs.fits.fill_fits.Goals as goal

pub loop-t-preserved : goal.loop-t-preserved
loop-t-preserved c =
    let l = c.loop-t in (
      length-set l.fit l.t _ ∙ l.invariant.0,
      λ rs li. fitted_more l.fit l.t _ (omega arith) _ rs (l.invariant.1 rs li)
          (c.row_of.ensures _ _ rs li (c.enter_sorts.ensures refl) (c.enter_sorts-2.ensures refl) (omega arith) (l.invariant.1 rs li)),
    )

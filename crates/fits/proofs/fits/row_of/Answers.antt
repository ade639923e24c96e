-- `row_of` meets its contract: a state's row or an arrow's, by the length of the payload.
use Rattle.fits.proofs.fits.Filling.{row_state, row_arrow}
use Rattle.fits.proofs.fits.row_of.Goals as goal

pub returns-then-len-eq1 : goal.returns-then-len-eq1
returns-then-len-eq1 c =
    let a = c.args in
    row_state _ _ a.froms.now a.tos.now _ _ _ a.fit.now c.place_at-place.ensures.value c.length_at-len.ensures c.if-len-eq1.true

pub returns : goal.returns
returns c =
    let a = c.args in
    let u = c.row_with.ensures in
    row_arrow _ _ a.froms.now a.tos.now _ _ _ a.fit.now c.place_at-place.ensures.value c.length_at-len.ensures c.if-len-eq1.false _ _ u.same c.arrow_sorts.ensures u.results u.arguments

-- `arrow_sorts` meets its contract. The invariant: the word together with the members from number k on decides.
use native.Mathlib.Omega.{arith}
use mathlib.Core.Path.{ap}
use Rattle.fits.specs.declared.masks.Row.{Row}
use Rattle.fits.proofs.fits.Arrows.{met_more, met_empty, met_all}
use Rattle.fits.proofs.fits.arrow_sorts.Goals as goal

pub returns-then-sorts-eq0 : goal.returns-then-sorts-eq0
returns-then-sorts-eq0 c = let l = c.loop-k in met_empty _ _ _ _ l.sorts _ l.invariant c.if-sorts-eq0.true

pub loop-k-preserved : goal.loop-k-preserved
loop-k-preserved c = let l = c.loop-k in met_more _ _ _ _ l.sorts _ l.invariant _ _ _ (omega arith) (omega arith) c.word_at-in-loop-k.ensures.value (ap (λ (row : Row). row.arguments) c.row_at-sorts-in-loop-k.ensures)

pub returns : goal.returns
returns c = let l = c.loop-k in met_all _ _ _ _ l.sorts _ l.invariant (omega arith)

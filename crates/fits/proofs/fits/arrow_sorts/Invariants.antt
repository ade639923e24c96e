-- `arrow_sorts` meets its contract. The invariant: the word together with the members from number k on decides.
use Prim.Native.Nat.{◌*◌}
use Rattle.fits.proofs.fits.Arrows.{MetTo}
use Rattle.fits.proofs.fits.arrow_sorts.Given as goal

abbrev pub invariant-loop-k : goal.invariant-loop-k
invariant-loop-k l = MetTo l.file l.place l.len l.fit l.sorts (2 * l.k)

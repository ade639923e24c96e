-- `fill_fits` meets its contract. The invariant: the rows before t are there.
use mathlib.Core.Path.{◌≡◌}
use mathlib.Core.List.{List}
use lib.ListN.{length}
use Rattle.casefile.specs.Records.{Record}
use Rattle.fits.specs.fits.Filled.{Fitted, TypesAndSorts}
use Rattle.fits.proofs.fits.fill_fits.Given as goal

abbrev pub invariant-loop-t : goal.invariant-loop-t
invariant-loop-t l = (length l.fit ≡ length l.initial.fit) × ((rs : List Record) → TypesAndSorts l.file l.index l.types l.sorts rs → Fitted l.fit l.t l.sorts rs)

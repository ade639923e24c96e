-- `path_within` meets its contract.
use lib.ListN.{length-replicate}
use Rattle.replay.proofs.replay.Paths.{attempt}
use Rattle.replay.proofs.replay.path_within.Goals as goal

pub returns : goal.returns
returns g c = attempt c.count_of.ensures.value c.count_of-2.ensures.value c.count_of-3.ensures.value c.moves-table.ensures _ c.entry-path.ensures c.run.ensures _ (length-replicate g.row.CELLS 0)

-- `enter_groups` meets its contract.
use Rattle.tables.proofs.table.Filling.{groups_put}
use Rattle.tables.proofs.table.enter_groups.Goals as goal

pub returns : goal.returns
returns c = groups_put _ _ c.if-t-lt-PAIRS_AT.false c.fill_groups.ensures

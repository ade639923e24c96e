-- `behind` meets its contract.
use Rattle.term_check.proofs.heads.Building.{behind_so}
use Rattle.term_check.proofs.heads.behind.Goals as goal

pub returns : goal.returns
returns c = behind_so _ _ _ c.min.ensures

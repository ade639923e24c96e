-- `body_fits` meets its contract.
use Rattle.bodies.proofs.Deciding.{decide_fails, decide_tree}
use Rattle.bodies.proofs.Heads.body_fits.Goals as goal

pub returns-in_default : goal.returns-in_default
returns-in_default c = decide_fails c.scan.ensures c.in_default.is

pub returns : goal.returns
returns c = decide_tree c.scan.ensures _ c.in-Some.is _ c.is_whole.ensures

-- `outlook_of` meets its contract.
use mathlib.Core.Path.{refl}
use Rattle.answers.proofs.Answers.{looks}
use Rattle.answers.proofs.outlook_of.Goals as goal

pub returns : goal.returns
returns c = looks _ _ _ _ _ _ _ c.cell_of.ensures c.in-Some.is c.if-memo-cell.false _ refl refl

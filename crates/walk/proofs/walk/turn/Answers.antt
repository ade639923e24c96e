use borrow.Author.Rules.{rules}
use native.Mathlib.Omega.{arith}
use mathlib.Core.Path.{refl}
use Rattle.walk.proofs.walk.Turns.{turn_falls, turn_ends}
use Rattle.walk.proofs.walk.turn.Goals as goal

pub returns-then-found-last : goal.returns-then-found-last
returns-then-found-last c = turn_falls _ (omega arith) _ c.at.ensures

pub returns : goal.returns
returns c = turn_ends _ _ _ _ _ refl (omega arith) c.take.result _ c.take.ensures (search rules)

-- `learn` meets its contract.
use mathlib.Core.Path.{ap}
use mathlib.Core.Logic.{inl, inr}
use Rattle.answers.proofs.Answers.{learns}
use Rattle.answers.proofs.learn.Goals as goal
use Rattle.answers.proofs.learn.Goals.{then-memo-cell, else-memo-cell}

pub returns : goal.returns
returns c = learns _ _ _ _ _ _ _ _ _ _ _ c.cell_of.ensures c.in-Some.is (elim c.if-memo-cell.branch [ then-memo-cell w ↦ inl (record { stamped = w.if-memo-cell.true; same_known = ap (λ p. p.0) w.old-is; same_had = ap (λ p. p.1) w.old-is }) | else-memo-cell w ↦ inr (ap (λ p. p.0) w.old-is) ])

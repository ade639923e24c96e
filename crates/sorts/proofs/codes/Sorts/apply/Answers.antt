-- `apply` meets its contract.
use mathlib.Core.Path.{◌∙◌}
use Rattle.sorts.proofs.steps.Offs.{off_tree_misfit, off_tree, off_misfit, off_listed}
use Rattle.sorts.proofs.codes.Sorts.apply.Goals as goal

pub returns-then-argument-ne0-clause-applied : goal.returns-then-argument-ne0-clause-applied
returns-then-argument-ne0-clause-applied c = λ sorts s t w ch ca. off_tree_misfit w c.if-head-gt-UNLISTED.true c.if-argument-ne0.true ch ca

pub returns-then-head-gt-UNLISTED-clause-applied : goal.returns-then-head-gt-UNLISTED-clause-applied
returns-then-head-gt-UNLISTED-clause-applied c = λ sorts s t w ch ca. off_tree w _ c.if-head-gt-UNLISTED.true c.if-argument-ne0.false c.place_at.ensures.value ch ca

pub returns-then-argument-from-clause-applied : goal.returns-then-argument-from-clause-applied
returns-then-argument-from-clause-applied c = λ sorts s t w ch ca. off_misfit w c.if-head-gt-UNLISTED.false c.if-head-eq0.false (λ e. c.if-argument-from.true (rw c.place_at-from.ensures.value e)) ch ca

pub returns-clause-applied : goal.returns-clause-applied
returns-clause-applied c = λ sorts s t w ch ca. let v = c.place_at-from.ensures.value in off_listed w _ c.if-head-gt-UNLISTED.false c.if-head-eq0.false (c.if-argument-from.false ∙ v) c.place_at-2.ensures.value ch ca

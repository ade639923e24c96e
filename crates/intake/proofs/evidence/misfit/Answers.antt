-- `misfit` meets its contract.
use native.Mathlib.Omega.{arith}
use Rattle.intake.proofs.evidence.misfit.Goals as goal

pub returns-then-types-le-FEW_TYPES-clause-first : goal.returns-then-types-le-FEW_TYPES-clause-first
returns-then-types-le-FEW_TYPES-clause-first c = c.misfit_in.ensures.first (omega arith)

pub returns-then-types-le-SOME_TYPES-clause-first : goal.returns-then-types-le-SOME_TYPES-clause-first
returns-then-types-le-SOME_TYPES-clause-first c = c.misfit_in-then-types-le-SOME_TYPES.ensures.first (omega arith)

pub returns-clause-first : goal.returns-clause-first
returns-clause-first c = λ rs ok types sorts bindings n nonterminals few. c.misfit_in-2.ensures.first (omega arith) rs ok types sorts bindings n nonterminals few

-- `misfit_in` meets its contract.
use native.Mathlib.Omega.{arith}
use lib.ListN.{length-replicate}
use Rattle.intake.proofs.evidence.Evidence.{finds_first}
use Rattle.intake.proofs.evidence.misfit_in.Goals as goal

pub returns-clause-first : goal.returns-clause-first
returns-clause-first g c = λ room. finds_first _ _ _ _ _ _ _ _ (λ k. omega (arith, c.type_inv.file k)) c.fill_fits.ensures c.first_misfit.ensures.first (simp length-replicate room)

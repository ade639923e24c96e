-- `missing_argument` meets its contract. The invariant: the search comes to the same among the arguments that are left.
use native.Mathlib.Omega.{arith}
use native.Mathlib.Numerals.{unary_clauses}
use mathlib.Core.Path.{refl, ◌∙◌}
use Rattle.term_check.proofs.check.Keeping.{next_by}
use Rattle.reasons.proofs.missing.Seeking.{seek_start, seek_end, seek_found, seek_next}
use Rattle.reasons.proofs.missing.missing_argument.Goals as goal

pub loop-init : goal.loop-init
loop-init c = (refl, simp unary_clauses (seek_start _ _ _ _ _ _))

pub returns-in-Some : goal.returns-in-Some
returns-in-Some c = (c.missing_member.ensures.0 ∙ c.loop.invariant.0, seek_found _ _ _ _ _ _ c.loop.invariant.1 (omega arith) _ _ _ c.in-Some.ensures.1)

pub loop-preserved : goal.loop-preserved
loop-preserved c = (c.missing_member.ensures.0 ∙ c.loop.invariant.0, seek_next _ _ _ _ _ _ c.loop.invariant.1 (omega arith) _ _ c.in_default.ensures.1 _ (next_by _ c.args.r.now _ _ _ c.number_in-base.ensures.0 c.node_of-node.ensures) _ c.result_of-rest.ensures.0 _ (omega arith))

pub returns : goal.returns
returns c = (c.loop.invariant.0, seek_end _ _ _ _ _ _ c.loop.invariant.1 (omega arith))

-- `gather` meets its contract. The invariant: the term is the node at `place` with its frame, and the arguments gathered.
use native.Mathlib.Omega.{arith}
use mathlib.Core.Path.{refl, sym, ap, ◌∙◌}
use Rattle.closures.specs.heads.Heads.{head_as}
use Rattle.closures.proofs.closures.Capping.{adds_saturating}
use Rattle.closures.proofs.fronts.Gathering.{gather_start, gather_far, gather_over, gather_head, gather_free, gather_rising, gather_next}
use Rattle.closures.proofs.fronts.gather.Goals as goal

pub loop-place-init : goal.loop-place-init
loop-place-init c = gather_start _ _ _ _ _ _

pub returns-then-free-m : goal.returns-then-free-m
returns-then-free-m c = gather_over c.loop-place.invariant _ c.byte_at-m.ensures.value c.if-free-m.true

pub returns-in_default : goal.returns-in_default
returns-in_default c = gather_head c.loop-place.invariant _ c.byte_at-m.ensures.value _ c.if-free-m.false refl _ _ c.spread-own.ensures (adds_saturating c.saturating_add-nodes.ensures) _ c.head_at-head.ensures _ refl c.in_default.not-Parameter

pub returns-in_default-closure_at : goal.returns-in_default-closure_at
returns-in_default-closure_at c = gather_free c.loop-place.invariant _ c.byte_at-m.ensures.value _ c.if-free-m.false refl _ _ c.spread-own.ensures (adds_saturating c.saturating_add-nodes.ensures) _ (sym (ap head_as c.in-Parameter.is) ∙ c.head_at-head.ensures) _ c.closure_at.ensures c.in_default-closure_at.is _ refl

pub returns-then-under-next : goal.returns-then-under-next
returns-then-under-next c = gather_rising c.loop-place.invariant _ c.byte_at-m.ensures.value _ c.if-free-m.false refl _ _ c.spread-own.ensures (adds_saturating c.saturating_add-nodes.ensures) _ (sym (ap head_as c.in-Parameter.is) ∙ c.head_at-head.ensures) _ c.closure_at.ensures _ c.in-Some.is (omega arith)

pub loop-place-preserved : goal.loop-place-preserved
loop-place-preserved c = gather_next c.loop-place.invariant _ c.byte_at-m.ensures.value _ c.if-free-m.false refl _ _ c.spread-own.ensures (adds_saturating c.saturating_add-nodes.ensures) _ (sym (ap head_as c.in-Parameter.is) ∙ c.head_at-head.ensures) _ c.closure_at.ensures _ c.in-Some.is _ _ _ c.at-place.ensures c.frame-next.ensures.count c.frame-next.ensures.block

pub returns : goal.returns
returns c = gather_far c.loop-place.invariant (omega arith)

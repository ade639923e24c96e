-- `test_evidence` meets its contract.
use native.Mathlib.Omega.{arith}
use Rattle.intake.proofs.evidence.Evidence.{evidence_10, evidence_path, evidence_11, evidence_12, evidence_none}
use Rattle.intake.proofs.evidence.test_evidence.Goals as goal

pub returns-then-types-bindings-gt0 : goal.returns-then-types-bindings-gt0
returns-then-types-bindings-gt0 c = λ lens rs kn ok fine. rw c.at.ensures (evidence_10 _ kn ok fine _ _ _ c.count_of-types.ensures.value c.count_of-bindings.ensures.value c.count_of.ensures.value c.if-count_of-gt0.true (omega arith))

pub returns-then-count_of-gt0 : goal.returns-then-count_of-gt0
returns-then-count_of-gt0 c = λ lens rs kn ok fine. evidence_path _ kn ok fine _ _ _ c.count_of-types.ensures.value c.count_of-bindings.ensures.value c.count_of.ensures.value c.if-count_of-gt0.true (omega arith)

pub returns-in-Some : goal.returns-in-Some
returns-in-Some c = λ lens rs kn ok fine. rw c.at-in-Some.ensures (evidence_11 _ kn ok fine _ _ _ c.count_of-types.ensures.value c.count_of-bindings.ensures.value c.count_of.ensures.value c.if-count_of-gt0.false _ c.count_of-sorts.ensures.value _ c.misfit.ensures.first _ c.in-Some.is _ c.place_of.ensures)

pub returns-then-flags-bindings : goal.returns-then-flags-bindings
returns-then-flags-bindings c = λ lens rs kn ok fine. rw c.at-then-flags-bindings.ensures (evidence_12 _ kn ok fine _ _ _ c.count_of-types.ensures.value c.count_of-bindings.ensures.value c.count_of.ensures.value c.if-count_of-gt0.false _ c.count_of-sorts.ensures.value _ c.misfit.ensures.first c.in_default.is c.if-flags-bindings.true)

pub returns : goal.returns
returns c = λ lens rs kn ok fine. evidence_none _ kn ok fine _ _ _ c.count_of-types.ensures.value c.count_of-bindings.ensures.value c.count_of.ensures.value c.if-count_of-gt0.false _ c.count_of-sorts.ensures.value _ c.misfit.ensures.first c.in_default.is c.if-flags-bindings.false

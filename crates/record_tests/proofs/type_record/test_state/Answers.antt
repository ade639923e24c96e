use native.Mathlib.Omega.{arith}
use Rattle.record_tests.proofs.type_record.Codes.{state_many, state_range, state_alone}
use Rattle.record_tests.proofs.type_record.test_state.Goals as goal

pub returns-then-n-ge-MAX_TYPES : goal.returns-then-n-ge-MAX_TYPES
returns-then-n-ge-MAX_TYPES c = λ h. state_many _ _ _ h c.if-n-ge-MAX_TYPES.true

pub returns-then-states-byte_at : goal.returns-then-states-byte_at
returns-then-states-byte_at c = λ h. state_range _ _ _ h (omega arith) _ c.byte_at.ensures.value c.if-states-byte_at.true

pub returns : goal.returns
returns c = λ h. state_alone _ _ _ h (omega arith) _ c.byte_at.ensures.value (omega arith)

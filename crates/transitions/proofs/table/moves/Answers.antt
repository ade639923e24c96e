use Rattle.transitions.proofs.table.Meaning.{all_rows}
use native.Mathlib.Omega.{arith}
use Rattle.transitions.proofs.table.Filling.{sofar_none, sofar_put, sofar_other}
use Rattle.transitions.proofs.table.moves.Goals as goal

pub loop-k-init : goal.loop-k-init
loop-k-init c = sofar_none _ _ _ c.if-n-gt-MAX_TRANSITIONS.false

pub loop-k-preserved-then-c-lt-MAX_CONSTRUCTORS : goal.loop-k-preserved-then-c-lt-MAX_CONSTRUCTORS
loop-k-preserved-then-c-lt-MAX_CONSTRUCTORS c = sofar_put _ _ _ _ _ c.loop-k.invariant c.loop-k-test.true _ c.place_at-at.ensures.value _ _ c.byte_at-q.ensures.value c.byte_at-c.ensures.value c.if-q-lt-MAX_STATES.true c.if-c-lt-MAX_CONSTRUCTORS.true _ _ _ _ c.target_at-first.ensures c.target_at-second.ensures c.target_at-third.ensures c.target_at-fourth.ensures

pub loop-k-preserved : goal.loop-k-preserved
loop-k-preserved c = sofar_other _ _ _ _ _ c.loop-k.invariant c.loop-k-test.true _ c.place_at-at.ensures.value _ _ c.byte_at-q.ensures.value c.byte_at-c.ensures.value (λ l. omega arith)

pub returns : goal.returns
returns c = all_rows _ _ _ _ _ c.loop-k.invariant c.loop-k-test.false

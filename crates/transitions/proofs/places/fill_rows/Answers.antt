-- `fill_rows` meets its contract. The invariant: the transitions from number k on are entered.
use Rattle.transitions.proofs.places.Filling.{sofar_none, sofar_put, sofar_state, sofar_constructor, all_rows}
use Rattle.transitions.proofs.places.fill_rows.Goals as goal

pub loop-k-init : goal.loop-k-init
loop-k-init c = sofar_none c.if-n-gt-MAX_TRANSITIONS.false c.clear.ensures

pub loop-k-preserved-then-c-lt-MAX_CONSTRUCTORS : goal.loop-k-preserved-then-c-lt-MAX_CONSTRUCTORS
loop-k-preserved-then-c-lt-MAX_CONSTRUCTORS c = sofar_put c.loop-k.invariant c.loop-k-test.true _ c.place_at-at.ensures _ _ c.byte_at-q.ensures.value c.byte_at-c.ensures.value c.if-q-lt-MAX_STATES.true c.if-c-lt-MAX_CONSTRUCTORS.true c.store.ensures

pub loop-k-preserved-else-c-lt-MAX_CONSTRUCTORS : goal.loop-k-preserved-else-c-lt-MAX_CONSTRUCTORS
loop-k-preserved-else-c-lt-MAX_CONSTRUCTORS c = sofar_constructor c.loop-k.invariant c.loop-k-test.true _ c.place_at-at.ensures _ _ c.byte_at-q.ensures.value c.byte_at-c.ensures.value c.if-c-lt-MAX_CONSTRUCTORS.false

pub loop-k-preserved : goal.loop-k-preserved
loop-k-preserved c = sofar_state c.loop-k.invariant c.loop-k-test.true _ c.place_at-at.ensures _ _ c.byte_at-q.ensures.value c.byte_at-c.ensures.value c.if-q-lt-MAX_STATES.false

pub returns : goal.returns
returns c = all_rows c.clear.ensures c.loop-k.invariant c.loop-k-test.false

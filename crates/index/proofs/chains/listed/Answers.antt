use mathlib.Core.Path.{refl}
use native.Mathlib.Omega.{arith}
use Rattle.index.proofs.chains.Hashing.{hash_few}
use Rattle.index.proofs.chains.Chaining.{seek_start, seek_hit, seek_miss, seek_up, seek_done}
use Rattle.index.proofs.chains.listed.Goals as goal

pub returns-then-h-gt-LAST_HASH : goal.returns-then-h-gt-LAST_HASH
returns-then-h-gt-LAST_HASH c = λ e. absurd (omega (arith, hash_few c.args.p.now, e))

pub loop-last-init : goal.loop-last-init
loop-last-init c = (c.place_at-last.ensures.bound, λ e. seek_start _ _ _ _ _ e c.place_at-last.ensures.value)

pub returns-then-has_payload : goal.returns-then-has_payload
returns-then-has_payload c = λ e. seek_hit _ _ _ _ _ _ refl (omega arith) c.has_payload.ensures (c.loop-last.invariant.1 e) c.if-has_payload.true

pub returns-then-i-before : goal.returns-then-i-before
returns-then-i-before c = λ e. seek_up _ _ _ _ _ _ refl (omega arith) c.has_payload.ensures (c.loop-last.invariant.1 e) c.if-has_payload.false _ c.place_at-before.ensures.value c.if-i-before.true

pub loop-last-preserved : goal.loop-last-preserved
loop-last-preserved c = (c.place_at-before.ensures.bound, λ e. seek_miss _ _ _ _ _ _ refl (omega arith) c.has_payload.ensures (c.loop-last.invariant.1 e) c.if-has_payload.false _ c.place_at-before.ensures.value)

pub returns : goal.returns
returns c = λ e. seek_done _ _ _ _ (omega arith) (c.loop-last.invariant.1 e)

use Prim.Native.Nat.{◌+◌, ◌*◌}
use mathlib.Core.Path.{◌≡◌, subst}
use native.Mathlib.Omega.{arith}
use Rattle.record_tests.proofs.type_record.Numbers.{Ascends, ascends_start, ascends_few, ascends_step, ascends_stop, ascends_end}
use Rattle.record_tests.proofs.type_record.members_ascend.Goals as goal

pub returns-then-p-lt4 : goal.returns-then-p-lt4
returns-then-p-lt4 c = ascends_few c.args.p.now (omega arith)

pub loop-i-init : goal.loop-i-init
loop-i-init c = ascends_start _ (omega arith) _ c.word_at-last.ensures.value

pub returns-then-m-last : goal.returns-then-m-last
returns-then-m-last c = ascends_stop _ _ _ _ (omega arith) c.word_at-m.ensures.value c.if-m-last.true c.loop-i.invariant

pub loop-i-preserved : goal.loop-i-preserved
loop-i-preserved c =
    let two : 2 * c.loop-i.i + 2 ≡ 2 * (c.loop-i.i + 1) = omega arith in
    subst (Ascends c.args.p.now c.word_at-m.result) two (ascends_step _ _ _ _ (omega arith) c.word_at-m.ensures.value (omega arith) c.loop-i.invariant)

pub returns : goal.returns
returns c = ascends_end _ _ (2 * c.loop-i.i) c.loop-i.invariant (omega arith)

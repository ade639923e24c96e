-- `run` meets its contract. The invariant: the letters from number i on lead to what all lead to.
use native.Mathlib.Omega.{arith}
use mathlib.Core.Path.{◌≡◌, refl}
use Rattle.std.proofs.Common.{rules}
use Rattle.replay.proofs.replay.Running.{letter_done, letter_stopped, refused_with, run_start, run_next, run_stop, run_end}
use Rattle.replay.proofs.replay.run.Goals as goal

pub loop-place-init : goal.loop-place-init
loop-place-init c = run_start _ _ _ _ _ _ _

pub returns-in_err-held : goal.returns-in_err-held
returns-in_err-held c =
    let (f, step, same) = letter_stopped _ _ _ c.in_err-held.ensures.cases c.in_err-held.ensures.variant in
    let e : c.in_err-held.field-0.0 ≡ record { fault = f; place = c.loop-place.place-counter } = search (rules, same) in
    rw (refused_with _ _ _ c.from_residual.ensures.1 e)
    (run_stop c.loop-place.invariant (omega arith) _ c.from-letter.ensures _ _ _ refl c.follow.ensures f step)

pub loop-place-preserved : goal.loop-place-preserved
loop-place-preserved c =
    run_next c.loop-place.invariant (omega arith) _ c.from-letter.ensures _ _ _ refl c.follow.ensures _
    (letter_done _ _ _ c.in_ok-held.ensures.cases c.in_ok-held.ensures.variant)

pub returns : goal.returns
returns c = run_end c.loop-place.invariant (omega arith) _ c.arrive.ensures

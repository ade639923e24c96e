-- `judge_with` meets its contract.
use mathlib.Core.Path.{ap, ◌∙◌}
use Rattle.std.specs.Prelude.{Ok}
use Rattle.std.proofs.lemmas.Result.{err_from_is_err_and}
use Rattle.plan_check.proofs.Judged.{path_refuted, path_refused, judged_refused, judged_bindings, judged_path}
use Rattle.plan_check.proofs.judge_with.Goals as goal

pub returns-in_err-case : goal.returns-in_err-case
returns-in_err-case c =
    let p = err_from_is_err_and c.from_residual.result c.from_residual.ensures.1 in
    rw (p.1, p.2) (λ room. judged_refused _ _ (c.examine.ensures.found room) _ c.in_err-case.was)

pub returns-in_err-replay_path-in-Path : goal.returns-in_err-replay_path-in-Path
returns-in_err-replay_path-in-Path c =
    let p = err_from_is_err_and c.from_residual-in_err-replay_path-in-Path.result c.from_residual-in_err-replay_path-in-Path.ensures.1 in
    rw (p.1, p.2)
    (λ room. judged_path _ _ (c.examine.ensures.found room) (c.in_ok-case.was ∙ ap Ok c.in-Path.is) _ c.replay_path.ensures _ (path_refused _ _ c.in_err-replay_path-in-Path.was))

pub returns-in_ok-replay_path-in-Path : goal.returns-in_ok-replay_path-in-Path
returns-in_ok-replay_path-in-Path c =
    λ room. judged_path _ _ (c.examine.ensures.found room) (c.in_ok-case.was ∙ ap Ok c.in-Path.is) _ c.replay_path.ensures _ (c.from.ensures ∙ path_refuted _ _ c.in_ok-replay_path-in-Path.was)

pub returns-in-Bindings : goal.returns-in-Bindings
returns-in-Bindings c = λ room. judged_bindings _ _ (c.examine.ensures.found room) (c.in_ok-case.was ∙ ap Ok c.in-Bindings.is) _ c.judge_binding_case.ensures

-- `start_kept` meets its contract.
use borrow.Author.Rules.{rules}
use native.Mathlib.Omega.{arith}
use mathlib.Core.Path.{refl, ap, ◌∙◌}
use mathlib.Core.Bool.{true, false}
use Prim.Native.Nat.{min}
use Rattle.std.proofs.Common.{tests}
use Rattle.std.proofs.lemmas.Iterator.{cases_from_any, YieldsList-from_range}
use Rattle.binding_cases.specs.Judging.{StartsAt}
use Rattle.binding_cases.proofs.Starting.{start_any}
use Rattle.binding_cases.proofs.start_kept.Goals as goal

pub returns : goal.returns
returns c =
    let t = c.args.t.now in
    let flags = c.args.flags.now in
    let by_call = cases_from_any _ _ _ (λ b. StartsAt t flags b true) (λ b. StartsAt t flags b false) c.any.ensures.ran (YieldsList-from_range 0 c.min.result c.min.result refl (omega arith)) (λ x q k. search (rules, tests)) (λ x q k. search (rules, tests)) in
    start_any _ _ _ _ _ (c.min.ensures ∙ ap (min c.args.n) c.group_of-others.ensures.0) by_call

-- `wrong_targets` meets its contract.
use mathlib.Core.Path.{◌∙◌}
use lib.Dec.{leb, ltb}
use borrow.Author.Tests.{tests}
use Rattle.std.proofs.Common.{rules}
use Rattle.std.proofs.lemmas.Iterator.{YieldsList-from_slice}
use Rattle.std.proofs.lemmas.Iterator.Search.{any_from_yields_List}
use Rattle.record_tests.proofs.Parts.{any_is}
use Rattle.record_tests.proofs.ordered.Targets.{first_targets, rest_targets, first_wrong, rest_wrong}
use Rattle.record_tests.proofs.ordered.wrong_targets.Goals as goal

pub returns-then-any : goal.returns-then-any
returns-then-any c =
    let y = YieldsList-from_slice _ (c.iter.ensures.rest ∙ first_targets c.args.states c.args.arity _ c.args.targets.now c.min-arguments.ensures) in
    first_wrong _ _ _ _ (any_from_yields_List (leb c.args.states) _ _ _ c.any.ensures.ran y (λ x b q k. search (rules, tests)) ∙ any_is _ _) c.if-any.true

pub returns-else-any : goal.returns-else-any
returns-else-any c =
    let y = YieldsList-from_slice _ (c.iter.ensures.rest ∙ first_targets c.args.states c.args.arity _ c.args.targets.now c.min-arguments.ensures) in
    let z = YieldsList-from_slice _ (c.iter-else-any.ensures.rest ∙ rest_targets c.args.states c.args.arity _ c.args.targets.now c.min-arguments.ensures) in
    rest_wrong _ _ _ _ _
    (any_from_yields_List (leb c.args.states) _ _ _ c.any.ensures.ran y (λ x b q k. search (rules, tests)) ∙ any_is _ _) c.if-any.false
    (any_from_yields_List (ltb 0) _ _ _ c.any-else-any.ensures.ran z (λ x b q k. search (rules, tests)) ∙ any_is _ _)

-- `first_wrong_body` meets its contract.
use mathlib.Core.Path.{refl}
use borrow.Author.Rules.{rules}
use Rattle.rules.proofs.rules.Refused.{finds}
use Rattle.rules.proofs.rules.first_wrong_body.Goals as goal

pub returns-clause-first : goal.returns-clause-first
returns-clause-first c =
    finds _ _ _ _ _ _ _ _ _ _ _ _ _ c.args.ends.now _ _ refl refl (search rules) (search rules) (search rules) (search rules)
    c.fill.ensures c.fill-2.ensures c.fill_column.ensures c.fill_column-2.ensures c.tree_codes-trees.ensures c.read_rules.ensures.first

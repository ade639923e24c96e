-- `args_known` meets its contract.
use mathlib.Core.Path.{sym, ◌∙◌}
use Rattle.term_check.proofs.check.Known.{known_states}
use Rattle.term_check.proofs.heads.args_known.Goals as goal

pub returns : goal.returns
returns c = known_states _ _ _ _ _ c.if-count-ne1.false (sym c.arrows_of.ensures.0 ∙ c.if-arrows_of-ne0.false) _ c.states_of-states.ensures.0 c.states_of-states.ensures.1 _ c.outlook_in-known.ensures _ c.left_of.ensures

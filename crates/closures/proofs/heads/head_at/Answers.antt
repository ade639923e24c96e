-- `head_at` meets its contract.
use native.Mathlib.Omega.{arith}
use Rattle.closures.proofs.closures.Nodes.{constructor_by, nonterminal_by, parameter_by}
use Rattle.closures.proofs.heads.head_at.Goals as goal

pub returns-in-0 : goal.returns-in-0
returns-in-0 c = constructor_by _ _ _ c.word_at.ensures.value (omega arith)

pub returns-in-1 : goal.returns-in-1
returns-in-1 c = nonterminal_by _ _ _ c.word_at-in-1.ensures.value (omega arith)

pub returns-in_default : goal.returns-in_default
returns-in_default c = parameter_by _ _ _ c.word_at-in_default.ensures.value (omega arith)

-- `starts_at` meets its contract.
use Rattle.binding_cases.proofs.Starting.{starts_dropped, starts_other, starts_here}
use Rattle.binding_cases.proofs.starts_at.Goals as goal

pub returns-then-byte_at-eq0 : goal.returns-then-byte_at-eq0
returns-then-byte_at-eq0 c = starts_dropped _ _ _ _ c.byte_at.ensures c.if-byte_at-eq0.true

pub returns-then-symbol_of-gt0 : goal.returns-then-symbol_of-gt0
returns-then-symbol_of-gt0 c = starts_other _ _ _ _ c.byte_at.ensures c.if-byte_at-eq0.false _ c.symbol_of.ensures.0 c.if-symbol_of-gt0.true

pub returns : goal.returns
returns c = starts_here _ _ _ _ c.byte_at.ensures c.if-byte_at-eq0.false _ c.symbol_of.ensures.0 c.if-symbol_of-gt0.false _ c.own_of.ensures.0

-- `has_payload` meets its contract: what has another length is not the entry, and the rest is compared.
use mathlib.Core.Path.{ap, ◌∙◌}
use native.Mathlib.Omega.{arith}
use Rattle.std.specs.Str.{bytes_eq}
use Rattle.index.proofs.lookup.Found.{entry_is, other_length}
use Rattle.index.proofs.lookup.has_payload.Goals as goal

pub returns-then-p-gt0 : goal.returns-then-p-gt0
returns-then-p-gt0 c = other_length _ _ _ _ _ _ c.place_at-start.ensures.value c.length_at-len.ensures c.if-len-p.true (λ e. absurd (omega (arith, c.if-p-gt0.true, e)))

pub returns : goal.returns
returns c = c.eq.ensures ∙ ap (bytes_eq c.args.p.now) (c.payload.ensures ∙ entry_is _ _ _ _ _ c.place_at-start.ensures.value c.length_at-len.ensures)

use Rattle.rules.proofs.reading.OneRule.{rule_wrong, rule_right}
use Rattle.rules.proofs.reading.read_rule.Goals as goal

pub returns-then-not-body_fits : goal.returns-then-not-body_fits
returns-then-not-body_fits c = rule_wrong _ c.place_at-place.ensures.value _ c.length_at-len.ensures _ c.payload-p.ensures _ c.place_at-own.ensures.value _ _ c.body_fits.ensures c.if-not-body_fits.true

pub returns : goal.returns
returns c = rule_right _ c.place_at-place.ensures.value _ c.length_at-len.ensures _ c.payload-p.ensures _ c.place_at-own.ensures.value _ _ c.body_fits.ensures c.if-not-body_fits.false c.if-ends-len.false

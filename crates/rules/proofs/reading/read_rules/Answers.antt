-- `read_rules` meets its contract. The invariant: the rules before f are accepted.
use Rattle.scheme.proofs.Lists.{part_size}
use Rattle.rules.proofs.reading.AllRules.{going_none, going_stop, going_more, changed_put}
use Rattle.rules.proofs.reading.read_rules.Goals as goal

pub loop-f-init : goal.loop-f-init
loop-f-init c = going_none _ _ _ _ _

pub returns-in_default-clause-first : goal.returns-in_default-clause-first
returns-in_default-clause-first c =
    let l = c.loop-f in
    let r = c.read_rule in
    going_stop _ _ _ _ _ l.f l.at l.ends _ r.new.ends _ _ l.invariant c.loop-f-test.true (part_size l.ends l.at) r.ensures (changed_put l.ends r.new.ends l.at l.invariant.inside r.ensures.long) c.in_default.is

pub loop-f-preserved : goal.loop-f-preserved
loop-f-preserved c =
    let l = c.loop-f in
    let r = c.read_rule in
    going_more _ _ _ _ _ l.f l.at l.ends _ r.new.ends _ _ l.invariant c.loop-f-test.true (part_size l.ends l.at) r.ensures (changed_put l.ends r.new.ends l.at l.invariant.inside r.ensures.long) _ c.in-Some.is

-- `follow` meets its contract.
use Rattle.replay.proofs.letters.Letters.{follow_unfolds, follow_descends}
use Rattle.replay.proofs.letters.follow.Goals as goal

pub returns-then-letter-eq0 : goal.returns-then-letter-eq0
returns-then-letter-eq0 c = follow_unfolds c.if-letter-eq0.true c.unfold_held.ensures

pub returns : goal.returns
returns c = follow_descends c.if-letter-eq0.false c.descend_held.ensures

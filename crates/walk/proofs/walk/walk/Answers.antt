use Rattle.walk.proofs.walk.Turns.{whole_walk}
use Rattle.walk.proofs.walk.walk.Goals as goal

pub returns : goal.returns
returns c = whole_walk _ _ _ _ _ c.args.counts.now _ _ _ _ c.pass.result c.clear.ensures c.store.ensures c.clear-2.ensures c.pass.ensures

-- `fill_sets` meets its contract. The invariant: the bindings below b are entered.
use Rattle.tables.proofs.candidates.Entering.{sets_all}
use Rattle.tables.proofs.candidates.fill_sets.Goals as goal

pub returns : goal.returns
returns c = sets_all c.loop-b.invariant c.loop-b-test.false

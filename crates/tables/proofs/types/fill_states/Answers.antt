-- `fill_states` meets its contract. The invariant: the rows of the states below q are entered.
use Rattle.tables.proofs.types.Filling.{states_more}
use Rattle.tables.proofs.types.fill_states.Goals as goal

pub loop-q-preserved : goal.loop-q-preserved
loop-q-preserved c = states_more c.loop-q.invariant c.loop-q-test.true _ c.row_at-row.ensures.0 _ _ _ c.store.ensures c.store-in-loop-q.ensures c.store-in-loop-q-2.ensures

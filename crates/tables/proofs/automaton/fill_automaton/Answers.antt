-- `fill_automaton` meets its contract. The invariant: the constructors below c are entered.
use Rattle.tables.proofs.automaton.Filling.{automaton_more}
use Rattle.tables.proofs.automaton.fill_automaton.Goals as goal

pub loop-c-preserved : goal.loop-c-preserved
loop-c-preserved c = automaton_more c.loop-c.invariant c.loop-c-test.true _ _ c.present_in-present.ensures c.arity_of-arity.ensures _ _ _ c.store.ensures c.store-in-loop-c.ensures c.fill_targets.ensures

-- `fill_table` meets its contract.
use Rattle.tables.proofs.table.Filling.{table_filled}
use Rattle.tables.proofs.table.fill_table.Goals as goal

pub returns : goal.returns
returns c = table_filled _ _ _ _ _ c.count_of-types.ensures.value c.count_of-bindings.ensures.value c.count_of-nonterminals.ensures.value c.count_of-constructors.ensures.value c.count_of-rules.ensures.value _ _ _ _ _ _ _ c.enter_groups.ensures c.fill_automaton.ensures c.fill_states.ensures c.fill_types.ensures c.fill_bindings.ensures c.fill_nodes.ensures

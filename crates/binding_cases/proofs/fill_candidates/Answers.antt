-- `fill_candidates` meets its contract.
use Rattle.binding_cases.proofs.Parts.{fills_part}
use Rattle.binding_cases.proofs.fill_candidates.Goals as goal

pub returns : goal.returns
returns c = fills_part _ _ _ _ c.if-r-lt-TEST_CELLS.false _ c.fill_sets.ensures

-- `candidate` meets its contract.
use Rattle.index.specs.layout.Layout.{test_cells}
use Rattle.term_check.proofs.heads.Candidates.{not_in_set, candidate_is, stands_by}
use Rattle.term_check.proofs.heads.Sets.{decides_behind}
use Rattle.term_check.proofs.heads.candidate.Goals as goal

pub returns-then-not-is_in : goal.returns-then-not-is_in
returns-then-not-is_in c = not_in_set _ _ _ _ _ _ (decides_behind _ test_cells _ _ c.candidates_at.ensures _ _ c.is_in.ensures) c.if-not-is_in.true

pub returns : goal.returns
returns c =
    candidate_is _ _ _ _ _ _ ((decides_behind _ test_cells _ _ c.candidates_at.ensures _ _ c.is_in.ensures).yes c.if-not-is_in.false)
    (stands_by _ _ _ _ _ c.number_in.ensures.0 c.if-number_in-c.false c.symbol_of.ensures.0 c.if-symbol_of-number.false) c.leading.ensures

-- `judge_bindings` meets its contract.
use native.Mathlib.Omega.{arith}
use mathlib.Core.Path.{refl}
use Rattle.binding_cases.proofs.Tables.{judged}
use Rattle.binding_cases.proofs.judge_bindings.Goals as goal

pub returns : goal.returns
returns c =
    judged _ _ _ _ _ _ _ _ _ _ _ _ _ _ _ _ _ _ _ _ _ _ _ _ _ _ (λ k. omega (arith, c.type_inv.file k))
    c.count_of-total.ensures c.count_of.ensures c.count_of-2.ensures c.count_of-3.ensures
    c.fill_rows.ensures c.fill_firsts.ensures c.fill_table-nodes.ensures (omega (arith, c.div_ceil-words.ensures)) c.set_places.ensures c.fill_candidates.ensures
    refl refl refl c.shrink-ended.ensures c.start_kept-accepted.ensures

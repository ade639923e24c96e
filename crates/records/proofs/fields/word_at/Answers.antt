-- `word_at` meets its contract.
use Rattle.casefile.proofs.Fields.{is_field_join}
use Rattle.records.proofs.fields.word_at.Goals as goal

pub returns : goal.returns
returns c = is_field_join 1 1 _ _ _ _ c.byte_at-low.ensures c.byte_at-high.ensures

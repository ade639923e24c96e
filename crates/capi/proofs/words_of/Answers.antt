-- `words_of` meets its contract.
use Rattle.capi.proofs.Exporting.{proved_words, unproved_words, refuted_words, refused_words}
use Rattle.capi.proofs.words_of.Goals as goal

pub returns-in-Proved : goal.returns-in-Proved
returns-in-Proved c = proved_words _ _ _ _ c.in-Proved.is

pub returns-in-Unproved : goal.returns-in-Unproved
returns-in-Unproved c = unproved_words _ _ _ _ c.in-Unproved.is

pub returns-in-Refuted : goal.returns-in-Refuted
returns-in-Refuted c = refuted_words _ _ _ _ c.in-Refuted.is

pub returns-in-Refused : goal.returns-in-Refused
returns-in-Refused c = refused_words _ _ _ c.in-Refused.is

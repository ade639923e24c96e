-- `join_word` meets its contract.
use Rattle.rounds.proofs.dropping.Joining.{word_joined}
use Rattle.rounds.proofs.dropping.join_word.Goals as goal

pub returns-then-k-into : goal.returns-then-k-into
returns-then-k-into c = word_joined _ _ _ c.if-k-into.true

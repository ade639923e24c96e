-- `join_words` meets its contract. The invariant: the words that are not left are joined.
use Rattle.rounds.proofs.dropping.Joining.{Joining}
use Rattle.rounds.proofs.dropping.join_words.Given as goal

abbrev pub invariant-loop-left : goal.invariant-loop-left
invariant-loop-left l = Joining l.words l.at l.some l.initial.into l.into l.left

abbrev pub decreases-loop-left : goal.decreases-loop-left
decreases-loop-left l = l.left

-- `quiet` meets its contract. The invariant: where what was read has no bit together, no word of it has one.
use Rattle.marks.proofs.Sets.{Quiets}
use Rattle.marks.proofs.quiet.Given as goal

abbrev pub invariant-loop-word : goal.invariant-loop-word
invariant-loop-word l = Quiets l.words l.i l.all l.word-index

-- `first_given` meets its contract. The invariant: the members before number j do not lead to the goal.
use Rattle.term_check.specs.Worlds.{case_of}
use Rattle.reasons.proofs.leading.Given.{Tried}
use Rattle.reasons.proofs.leading.first_given.Given as goal

abbrev pub invariant-loop-j : goal.invariant-loop-j
invariant-loop-j l = Tried (case_of l.t l.r) l.node l.goal l.given l.j

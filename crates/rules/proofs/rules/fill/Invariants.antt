-- `fill` meets its contract. The invariant: the first i fields are stored.
use Rattle.rules.specs.rules.Rules.{Filled}
use Rattle.rules.proofs.rules.fill.Given as goal

abbrev pub invariant-loop-i : goal.invariant-loop-i
invariant-loop-i g l = Filled g.row.WIDTH l.file l.index l.from l.at l.i l.to l.initial.table l.table

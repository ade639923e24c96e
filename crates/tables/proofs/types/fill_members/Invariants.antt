-- `fill_members` meets its contract. The invariant: the members before j are entered, and what there is among them.
use Rattle.tables.proofs.types.Filling.{MembersTo}
use Rattle.tables.proofs.types.fill_members.Given as goal

abbrev pub invariant-loop-j : goal.invariant-loop-j
invariant-loop-j l = MembersTo l.file l.start l.many l.m l.initial.t l.j l.t l.among

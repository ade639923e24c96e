-- `near_members` meets its contract. The invariant: the members before j stand in the first one's word, and the mask has their bits.
use Rattle.tables.proofs.types.Filling.{NearTo}
use Rattle.tables.proofs.types.near_members.Given as goal

abbrev pub invariant-loop-j : goal.invariant-loop-j
invariant-loop-j l = NearTo l.t l.m l.many l.j l.word l.mask

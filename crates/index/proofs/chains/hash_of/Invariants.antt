-- `hash_of` meets its contract: the numbers are mixed in one by one.
use Prim.Native.Nat.{◌*◌, ◌<◌}
use Rattle.index.proofs.chains.Hashing.{Mixes}
use Rattle.index.proofs.chains.hash_of.Given as goal

abbrev pub invariant-loop-i : goal.invariant-loop-i
invariant-loop-i l = record { small : l.h < 65536; mixed : Mixes l.p l.h (2 * l.i) }

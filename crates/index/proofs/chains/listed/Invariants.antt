use Prim.Native.Nat.{◌<◌}
use mathlib.Core.Path.{◌≡◌}
use Rattle.index.specs.entries.Chains.{hash_of_spec}
use Rattle.index.proofs.chains.Chaining.{Sought}
use Rattle.index.proofs.chains.listed.Given as goal

abbrev pub invariant-loop-last : goal.invariant-loop-last
invariant-loop-last l = (l.last < 65536) × (l.h ≡ hash_of_spec l.p → Sought l.file l.index l.p l.last)

abbrev pub decreases-loop-last : goal.decreases-loop-last
decreases-loop-last l = l.last

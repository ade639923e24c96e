-- The tests by their numbers.
use Prim.Native.Nat.{ℕ, ◌<◌}
use native.Mathlib.Omega.{arith}
use Rattle.records.specs.refusal.Numbers.{number_of}
use Rattle.records.specs.declared.refusal.Fault.{Fault}
use Rattle.records.specs.declared.refusal.Fault.TheVariants.{TooLong, CutOff, WrongKind, WrongLength, OverLimit, OutOfRange, Misplaced, Incomplete, WrongBody, MixedEvidence, Misfit, FewFlags, Lost, TooLarge, NotStuck}

-- no test has number 0
pub number_some : (f : Fault) → 0 < number_of f
number_some TooLong = omega arith
number_some CutOff = omega arith
number_some WrongKind = omega arith
number_some WrongLength = omega arith
number_some OverLimit = omega arith
number_some OutOfRange = omega arith
number_some Misplaced = omega arith
number_some Incomplete = omega arith
number_some WrongBody = omega arith
number_some MixedEvidence = omega arith
number_some Misfit = omega arith
number_some FewFlags = omega arith
number_some Lost = omega arith
number_some TooLarge = omega arith
number_some NotStuck = omega arith

-- What our own crates promise each other; nothing here has to be believed.
-- The tests that a file may fail, by their numbers in the table of refusals.
use Rattle.std.specs.Prelude.{ℕ, Result, Ok, Err}
use Rattle.casefile.specs.Refusals
use Rattle.records.specs.declared.refusal.Fault.{Fault}
use Rattle.records.specs.declared.refusal.Fault.TheVariants.{TooLong, CutOff, WrongKind, WrongLength, OverLimit, OutOfRange, Misplaced, Incomplete, WrongBody, MixedEvidence, Misfit, FewFlags, Lost, TooLarge, NotStuck}
use Rattle.records.specs.declared.refusal.Refusal.{Refusal}

-- the number of a test
abbrev pub number_of : Fault → ℕ
number_of TooLong = 1
number_of CutOff = 2
number_of WrongKind = 3
number_of WrongLength = 4
number_of OverLimit = 5
number_of OutOfRange = 6
number_of Misplaced = 7
number_of Incomplete = 8
number_of WrongBody = 9
number_of MixedEvidence = 10
number_of Misfit = 11
number_of FewFlags = 12
number_of Lost = 13
number_of TooLarge = 14
number_of NotStuck = 15

-- a refusal as one of the definitions: a number and a place
abbrev pub refusal_as : Refusal → Refusals.Refusal
refusal_as r = record { number = number_of r.fault; place = r.place }

-- the number of the test that a record fails; 0 where it fails none
abbrev pub code_of : Result Unit Fault → ℕ
code_of (Ok x) = 0
code_of (Err f) = number_of f

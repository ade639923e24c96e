-- `missing_target` meets its contract. The invariant: the search comes to the same among the arguments that are left.
use Prim.Native.Nat.{◌-◌}
use mathlib.Core.Path.{◌≡◌}
use lib.ListN.{length}
use Rattle.term_check.specs.Worlds.{case_of, answers_of, users_of}
use Rattle.reasons.proofs.missing.Seeking.{SeekingTargets}
use Rattle.reasons.proofs.missing.missing_target.Given as goal

abbrev pub invariant-loop : goal.invariant-loop
invariant-loop l = (length l.w ≡ length l.initial.w) × SeekingTargets (case_of l.t l.r) (answers_of l.r l.initial.w) (users_of l.r l.initial.w) l.at l.count l.targets (answers_of l.r l.w) (users_of l.r l.w) l.here l.rest (l.count - l.counter)

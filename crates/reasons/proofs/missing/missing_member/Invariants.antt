-- `missing_member` meets its contract. The invariant: the members before number j are had.
use mathlib.Core.Path.{◌≡◌}
use lib.ListN.{length}
use Rattle.term_check.specs.Worlds.{case_of, answers_of, users_of}
use Rattle.term_check.proofs.check.Members.{Asked}
use Rattle.reasons.proofs.missing.missing_member.Given as goal

abbrev pub invariant-loop-j : goal.invariant-loop-j
invariant-loop-j l = (length l.w ≡ length l.initial.w) × Asked (case_of l.t l.r) (answers_of l.r l.initial.w) (users_of l.r l.initial.w) l.at l.ty (answers_of l.r l.w) (users_of l.r l.w) l.j

-- The check of a term and of its arguments meet their contracts. The remaining nodes fall, then what is asked of a node.
use Prim.Native.Nat.{◌-◌, ◌*◌, ◌+◌, ◌≤◌, ◌%◌}
use mathlib.Core.Path.{◌≡◌}
use mathlib.Core.Bool.{Bool}
use mathlib.Core.List.{List}
use lib.ListN.{length}
use Rattle.index.specs.layout.Layout.{row_limit}
use Rattle.tables.specs.reading.Cells.{group_of, node_at}
use Rattle.term_check.specs.notes.Notes.{base_in}
use Rattle.term_check.specs.Worlds.{case_of, answers_of, users_of, ChecksArgs, ChecksTargets, Finds}
use Rattle.term_check.proofs.check.Bound as Bound
use Rattle.term_check.proofs.check.Given as Given
use Rattle.term_check.proofs.check.Seeking.{Sought}
use Rattle.term_check.proofs.check.Members.{Asked, Recalled}
use Rattle.term_check.proofs.check.States.{Left}
use Prim.Native.Nat.{ℕ}
use Rattle.term_check.proofs.check.+term.Given as goal

abbrev pub decreases-args_again : goal.decreases-args_again
decreases-args_again l = (18446744073709551616 - l.at) * 16 + 12

abbrev pub decreases-all_args : goal.decreases-all_args
decreases-all_args l = (18446744073709551616 - l.at) * 16 + 10

abbrev pub decreases-check_args : goal.decreases-check_args
decreases-check_args l = (18446744073709551616 - l.at) * 16 + 11

abbrev pub decreases-check_bound : goal.decreases-check_bound
decreases-check_bound l = (18446744073709551616 - l.at) * 16 + 4

abbrev pub decreases-check_each : goal.decreases-check_each
decreases-check_each l = (18446744073709551616 - l.at) * 16 + 8

abbrev pub decreases-check_given : goal.decreases-check_given
decreases-check_given l = (18446744073709551616 - l.at) * 16 + 3

abbrev pub decreases-check_listed : goal.decreases-check_listed
decreases-check_listed l = (18446744073709551616 - l.at) * 16 + 3

abbrev pub decreases-all_members : goal.decreases-all_members
decreases-all_members l = (18446744073709551616 - l.at) * 16 + 9

abbrev pub decreases-check_states : goal.decreases-check_states
decreases-check_states l = (18446744073709551616 - l.at) * 16 + 8

abbrev pub decreases-one_target : goal.decreases-one_target
decreases-one_target l = (18446744073709551616 - l.at) * 16 + 6

abbrev pub decreases-all_targets : goal.decreases-all_targets
decreases-all_targets l = (18446744073709551616 - l.at) * 16 + 10

abbrev pub decreases-check_term : goal.decreases-check_term
decreases-check_term l = (18446744073709551616 - l.at) * 16 + 5

abbrev pub decreases-find_bound : goal.decreases-find_bound
decreases-find_bound l = (18446744073709551616 - l.at) * 16 + 4

abbrev pub decreases-find_given : goal.decreases-find_given
decreases-find_given l = (18446744073709551616 - l.at) * 16 + 4

abbrev pub decreases-find_states : goal.decreases-find_states
decreases-find_states l = (18446744073709551616 - l.at) * 16 + 7

abbrev pub decreases-try_one : goal.decreases-try_one
decreases-try_one l = (18446744073709551616 - l.at) * 16 + 3

abbrev pub invariant-all_args-loop : goal.invariant-all_args-loop
invariant-all_args-loop l = (length l.w ≡ length l.initial.w) × (l.at ≤ l.here) × ((memo' users' : List ℕ) (b : Bool) → ChecksArgs (case_of l.t l.r) (answers_of l.r l.w) (users_of l.r l.w) l.here (l.count - l.counter) l.rest memo' users' b → ChecksArgs (case_of l.t l.r) (answers_of l.r l.initial.w) (users_of l.r l.initial.w) l.at l.count l.ty memo' users' b)

abbrev pub invariant-check_each-loop-j : goal.invariant-check_each-loop-j
invariant-check_each-loop-j l = (length l.w ≡ length l.initial.w) × Asked (case_of l.t l.r) (answers_of l.r l.initial.w) (users_of l.r l.initial.w) l.at l.ty (answers_of l.r l.w) (users_of l.r l.w) l.j × Recalled (case_of l.t l.r) (answers_of l.r l.initial.w) (users_of l.r l.initial.w) l.at l.ty (users_of l.r l.w) l.last

abbrev pub invariant-check_given-loop-j : goal.invariant-check_given-loop-j
invariant-check_given-loop-j l = (length l.w ≡ length l.initial.w) × Given.Tried (case_of l.t l.r) (answers_of l.r l.initial.w) (users_of l.r l.initial.w) l.at l.goal l.node l.given (answers_of l.r l.w) (users_of l.r l.w) l.j

abbrev pub invariant-check_listed-loop-found : goal.invariant-check_listed-loop-found
invariant-check_listed-loop-found l = (length l.w ≡ length l.initial.w) × (group_of l.t l.node.number ≤ l.from) × (l.node ≡ node_at l.t (base_in l.r) l.at → l.node.tag ≡ 1 → Bound.Failed (case_of l.t l.r) (answers_of l.r l.initial.w) (users_of l.r l.initial.w) l.at l.goal l.node (answers_of l.r l.w) (users_of l.r l.w) l.from)

abbrev pub decreases-check_listed-loop-found : goal.decreases-check_listed-loop-found
decreases-check_listed-loop-found l = group_of l.t (l.node.number % row_limit + 1) - l.from

abbrev pub invariant-check_states-loop-left : goal.invariant-check_states-loop-left
invariant-check_states-loop-left l = (length l.w ≡ length l.initial.w) × ((memo users : List ℕ) → Finds (case_of l.t l.r) memo users l.at (answers_of l.r l.initial.w) (users_of l.r l.initial.w) l.initial.had → Left (case_of l.t l.r) memo users l.at l.asked (answers_of l.r l.w) (users_of l.r l.w) l.had l.left)

abbrev pub decreases-check_states-loop-left : goal.decreases-check_states-loop-left
decreases-check_states-loop-left l = l.left

abbrev pub invariant-all_targets-loop-left : goal.invariant-all_targets-loop-left
invariant-all_targets-loop-left l = (length l.w ≡ length l.initial.w) × (l.at ≤ l.here) × ((memo' users' : List ℕ) (b : Bool) → ChecksTargets (case_of l.t l.r) (answers_of l.r l.w) (users_of l.r l.w) l.here l.left l.rest memo' users' b → ChecksTargets (case_of l.t l.r) (answers_of l.r l.initial.w) (users_of l.r l.initial.w) l.at l.count l.targets memo' users' b)

abbrev pub decreases-all_targets-loop-left : goal.decreases-all_targets-loop-left
decreases-all_targets-loop-left l = 18446744073709551616 - l.here

abbrev pub invariant-find_bound-loop-left : goal.invariant-find_bound-loop-left
invariant-find_bound-loop-left l = (length l.w ≡ length l.initial.w) × (l.node ≡ node_at l.t (base_in l.r) l.at → l.node.tag ≡ 1 → Finds (case_of l.t l.r) (answers_of l.r l.initial.w) (users_of l.r l.initial.w) l.at (answers_of l.r l.w) (users_of l.r l.w) l.had)

abbrev pub decreases-find_bound-loop-left : goal.decreases-find_bound-loop-left
decreases-find_bound-loop-left l = l.left

abbrev pub invariant-find_given-loop-j : goal.invariant-find_given-loop-j
invariant-find_given-loop-j l = (length l.w ≡ length l.initial.w) × (l.node ≡ node_at l.t (base_in l.r) l.at → (l.node.tag ≡ 0 → ⊥) → (l.node.tag ≡ 1 → ⊥) → Sought (case_of l.t l.r) (answers_of l.r l.initial.w) (users_of l.r l.initial.w) l.at l.asked l.node l.given (answers_of l.r l.w) (users_of l.r l.w) l.had l.left l.j)

-- The check of a term and of its arguments meet their contracts. The remaining nodes fall, then what is asked of a node.
use Prim.Native.Nat.{◌+◌}
use mathlib.Core.Path.{refl, sym, ◌∙◌}
use native.Mathlib.Omega.{arith}
use Rattle.term_check.specs.Worlds.{case_of, answers_of, users_of, Keeps}
use Rattle.term_check.proofs.check.Keeping.{node_by, next_by, tells_on, keeps_all}
use Rattle.term_check.proofs.check.Arguments.{args_none, args_stuck, args_lack, args_rest}
use Rattle.term_check.proofs.check.Targets.{targets_none, targets_stuck, targets_lack, targets_rest, down_none, down, leaf_settles}
use Rattle.term_check.proofs.check.Bound.{try_misses, try_lacks, try_serves, tried_serves, tried_fails, failed_end, try_next, served}
use Rattle.term_check.proofs.check.Given.{given_none, given_end, member_misses, member_fails, member_has}
use Rattle.term_check.proofs.check.Seeking.{sought_misses, sought_fails, sought_serves, sought_end}
use Rattle.term_check.proofs.check.Known.{known_args}
use Rattle.term_check.proofs.check.Members.{states_lack, states_had, states_fail, states_checked, had_at_once, asked_end, recalled_more, recalled_on, recalled_no, recalled_yes, checked_no, checked_yes}
use Rattle.term_check.proofs.check.States.{finds_none, finds_on, finds_more, settles_found, left_more, left_fails, left_end, settled_fails}
use Rattle.term_check.proofs.check.Moved.{members_moved, asked_moved, recalled_moved, all_moved, tries_moved}
use Rattle.term_check.proofs.check.Terms.{term_past, no_targets, built_checked, alone_checked}
use Rattle.term_check.proofs.check.+term.Goals as goal
use Rattle.term_check.proofs.check.+term.Goals.{check_bound-in-Some+else-try_one, check_bound-in_default, check_each-then-not-has_bit+else-not-check_term, check_each-else-not-has_bit, check_given-then-off-goal+else-check_args, check_given-else-off-goal, find_given-in-Some-wanted+then-args_again, find_given-in-Some-wanted+else-args_again, find_given-in_default-wanted}

pub args_again-returns-then-args_known : goal.args_again-returns-then-args_known
args_again-returns-then-args_known t c = (refl, known_args _ _ _ _ _ _ _ c.args_known.ensures c.if-args_known.true)

pub args_again-returns : goal.args_again-returns
args_again-returns t c = (c.check_args.ensures.0, c.check_args.ensures.1)

pub all_args-returns-then-node-here : goal.all_args-returns-then-node-here
all_args-returns-then-node-here t c = (c.loop.invariant.0, c.loop.invariant.2 _ _ _ (args_stuck _ _ _ _ _ _ (omega arith) _ (next_by _ c.args.r.now _ _ _ c.number_in-base.ensures.0 c.node_of-node.ensures) c.if-node-here.true))

pub all_args-returns-then-not-all_members : goal.all_args-returns-then-not-all_members
all_args-returns-then-not-all_members t c = (c.all_members.ensures.0 ∙ c.loop.invariant.0, c.loop.invariant.2 _ _ _ (args_lack _ _ _ _ _ _ (omega arith) _ (next_by _ c.args.r.now _ _ _ c.number_in-base.ensures.0 c.node_of-node.ensures) _ _ _ (c.all_members.ensures.1 (node_by _ c.args.r.now _ _ _ c.number_in-base.ensures.0 c.node_of-node.ensures)) c.if-not-all_members.true))

pub all_args-loop-preserved : goal.all_args-loop-preserved
all_args-loop-preserved t c = (c.all_members.ensures.0 ∙ c.loop.invariant.0, let l = c.loop.invariant.1 in let h = c.if-node-here.false in omega arith, λ m u r told. c.loop.invariant.2 m u r (args_rest _ _ _ _ _ _ (omega arith) _ (next_by _ c.args.r.now _ _ _ c.number_in-base.ensures.0 c.node_of-node.ensures) _ _ _ (c.all_members.ensures.1 (node_by _ c.args.r.now _ _ _ c.number_in-base.ensures.0 c.node_of-node.ensures)) c.if-not-all_members.false _ c.result_of-rest.ensures.0 _ (omega arith) m u r told))

pub all_args-returns : goal.all_args-returns
all_args-returns t c = (c.loop.invariant.0, c.loop.invariant.2 _ _ _ (args_none _ _ _ c.loop.here _ _ (omega arith)))

pub check_args-returns-then-count-eq0 : goal.check_args-returns-then-count-eq0
check_args-returns-then-count-eq0 t c = (refl, args_none _ _ _ c.args.at _ _ (omega (arith, c.if-count-eq0.true)))

pub check_args-returns : goal.check_args-returns
check_args-returns t c = (c.all_args.ensures.0, c.all_args.ensures.1)

pub check_bound-returns-then-try_one : goal.check_bound-returns-then-try_one
check_bound-returns-then-try_one t c = (c.try_one.ensures.0, λ ea et. served _ ea et c.try_one.ensures.1 c.if-try_one.true)

pub check_bound-returns : goal.check_bound-returns
check_bound-returns t c = (
  c.check_listed.ensures.0 ∙ c.match-bound_hint.auto.w,
  λ ea et.
      let k : Keeps (case_of c.args.t.now c.args.r.now) (answers_of c.args.r.now c.args.w.now) (users_of c.args.r.now c.args.w.now) (answers_of c.args.r.now c.match-bound_hint.w) (users_of c.args.r.now c.match-bound_hint.w) =
      elim c.match-bound_hint.branch [ check_bound-in-Some+else-try_one w ↦ rw w.w-is (w.try_one.ensures.1 ea et).keeps | check_bound-in_default w ↦ rw w.w-is (keeps_all _ _ _) ] in
      tells_on k (c.check_listed.ensures.1 ea et),
)

pub check_each-returns-then-all_had : goal.check_each-returns-then-all_had
check_each-returns-then-all_had t c = (refl, had_at_once _ _ _ _ _ c.all_had.ensures c.if-all_had.true)

pub check_each-returns-then-has_bit : goal.check_each-returns-then-has_bit
check_each-returns-then-has_bit t c = (c.loop-j.invariant.0, recalled_no _ _ _ _ _ c.loop-j.invariant.1 _ c.many_of-many.ensures.0 c.loop-j-test.true _ c.member_of-goal.ensures.0 _ (recalled_on _ _ _ _ _ c.loop-j.invariant.1.keeps _ _ _ c.loop-j.invariant.2 c.outlook_on-known.ensures) _ c.has_bit.ensures c.if-has_bit.true)

pub check_each-returns-then-not-check_term : goal.check_each-returns-then-not-check_term
check_each-returns-then-not-check_term t c = (c.learn_in.ensures.0 ∙ c.check_term.ensures.0 ∙ c.loop-j.invariant.0, members_moved _ _ _ c.args.at _ _ _ _ _ c.learn_in.ensures.1 (checked_no _ _ _ _ _ c.loop-j.invariant.1 _ c.many_of-many.ensures.0 c.loop-j-test.true _ c.member_of-goal.ensures.0 _ c.with_bit-bit.ensures _ _ _ c.check_term.ensures.1 _ c.if-not-check_term.true c.learn_in.ensures.2))

pub check_each-loop-j-preserved : goal.check_each-loop-j-preserved
check_each-loop-j-preserved t c =
    elim c.if-not-has_bit.branch [
      | check_each-then-not-has_bit+else-not-check_term w ↦
          rw w.w-is (
            w.learn_in-then-not-has_bit.ensures.0 ∙ w.check_term.ensures.0 ∙ c.loop-j.invariant.0,
            asked_moved _ _ _ _ _ _ _ _ _ w.learn_in-then-not-has_bit.ensures.1 (checked_yes _ _ _ _ _ c.loop-j.invariant.1 _ c.many_of-many.ensures.0 c.loop-j-test.true _ c.member_of-goal.ensures.0 _ w.with_bit-bit.ensures _ _ _ w.check_term.ensures.1 _ w.if-not-check_term.false w.learn_in-then-not-has_bit.ensures.2 _ (omega arith)),
            recalled_moved _ _ _ _ _ _ _ _ w.learn_in-then-not-has_bit.ensures.1 (recalled_more _ _ _ _ _ w.check_term.ensures.1.keeps.grows (recalled_on _ _ _ _ _ c.loop-j.invariant.1.keeps _ _ _ c.loop-j.invariant.2 c.outlook_on-known.ensures)),
          )
      | check_each-else-not-has_bit w ↦
          rw w.w-is (
            c.loop-j.invariant.0,
            recalled_yes _ _ _ _ _ c.loop-j.invariant.1 _ c.many_of-many.ensures.0 c.loop-j-test.true _ c.member_of-goal.ensures.0 _ (recalled_on _ _ _ _ _ c.loop-j.invariant.1.keeps _ _ _ c.loop-j.invariant.2 c.outlook_on-known.ensures) _ c.has_bit-in-loop-j.ensures w.if-not-has_bit.false _ (omega arith),
            (recalled_on _ _ _ _ _ c.loop-j.invariant.1.keeps _ _ _ c.loop-j.invariant.2 c.outlook_on-known.ensures),
          )
    ]

pub check_each-returns : goal.check_each-returns
check_each-returns t c = (c.loop-j.invariant.0, asked_end _ _ _ _ _ c.loop-j.invariant.1 _ c.many_of-many.ensures.0 c.loop-j-test.false)

pub check_given-returns-in_default : goal.check_given-returns-in_default
check_given-returns-in_default t c = (refl, λ ea nc nn. given_none _ _ _ _ _ _ _ refl ea nc nn c.in_default.ensures)

pub check_given-returns-then-check_args : goal.check_given-returns-then-check_args
check_given-returns-then-check_args t c = (c.check_args.ensures.0 ∙ c.loop-j.invariant.0, λ ea nc nn. tells_on c.loop-j.invariant.1.keeps (member_has _ _ _ _ _ _ _ c.in-Some.ensures.0 ea nc nn _ _ c.many_of-many.ensures.0 c.loop-j-test.true c.in-Some.ensures.1 _ c.member_of-ty.ensures.0 _ c.off.ensures c.if-off-goal.true (c.args.at + 1) (omega arith) _ _ _ c.check_args.ensures.1 c.if-check_args.true))

pub check_given-loop-j-preserved : goal.check_given-loop-j-preserved
check_given-loop-j-preserved t c =
    elim c.if-off-goal.branch [
      | check_given-then-off-goal+else-check_args w ↦
          rw w.w-is (w.check_args.ensures.0 ∙ c.loop-j.invariant.0, member_fails _ _ _ _ _ _ _ c.loop-j.invariant.1 _ c.member_of-ty.ensures.0 _ (omega arith) _ c.off.ensures w.if-off-goal.true (c.args.at + 1) (omega arith) _ _ _ w.check_args.ensures.1 w.if-check_args.false)
      | check_given-else-off-goal w ↦ rw w.w-is (c.loop-j.invariant.0, member_misses _ _ _ _ _ _ _ c.loop-j.invariant.1 _ c.member_of-ty.ensures.0 _ (omega arith) _ c.off.ensures w.if-off-goal.false)
    ]

pub check_given-returns : goal.check_given-returns
check_given-returns t c = (c.loop-j.invariant.0, λ ea nc nn. given_end _ _ _ _ _ _ _ c.in-Some.ensures.0 ea nc nn c.loop-j.invariant.1 _ c.many_of-many.ensures.0 c.loop-j-test.false)

pub check_listed-returns-then-check_args : goal.check_listed-returns-then-check_args
check_listed-returns-then-check_args t c =
    let found = c.in-Some.ensures.1 c.loop-found.invariant.1 in (
      c.hint_in.ensures.0 ∙ c.note_in.ensures.0 ∙ c.check_args.ensures.0 ∙ c.loop-found.invariant.0,
      λ ea et.
          tried_serves _ _ _ _ _ _ (try_next _ _ _ _ _ _ (c.loop-found.invariant.2 ea et) _ (c.in-Some.found.binding + 1) found.2 (omega arith)) _ _ _ ea et
          (tries_moved _ _ _ _ _ _ _ _ _ _ _ _ (c.hint_in.ensures.1 ∙ c.note_in.ensures.1) c.hint_in.ensures.2 (try_serves _ _ _ _ _ _ _ _ found.3 (c.args.at + 1) (omega arith) _ _ _ c.check_args.ensures.1 c.if-check_args.true _ c.note_in.ensures.2)) refl,
    )

pub check_listed-loop-found-preserved : goal.check_listed-loop-found-preserved
check_listed-loop-found-preserved t c =
    let found = c.in-Some.ensures.1 c.loop-found.invariant.1 in (
      c.check_args.ensures.0 ∙ c.loop-found.invariant.0,
      (let l = c.loop-found.invariant.1 in let b = found.0 in omega arith),
      λ ea et.
          tried_fails _ _ _ _ _ _ (try_next _ _ _ _ _ _ (c.loop-found.invariant.2 ea et) _ (c.in-Some.found.binding + 1) found.2 (omega arith)) _ _ _ ea et
          (try_lacks _ _ _ _ _ _ _ _ found.3 (c.args.at + 1) (omega arith) _ _ _ c.check_args.ensures.1 c.if-check_args.false) refl,
    )

pub check_listed-returns : goal.check_listed-returns
check_listed-returns t c = (c.loop-found.invariant.0, λ ea et. failed_end _ _ _ _ _ _ (c.loop-found.invariant.2 ea et) (c.in_default.ensures.1 c.loop-found.invariant.1) ea et)

pub all_members-returns-then-states-known-ne0 : goal.all_members-returns-then-states-known-ne0
all_members-returns-then-states-known-ne0 t c = (refl, λ ea. states_lack _ _ _ _ _ _ c.states_of-states.ensures.0 c.states_of-states.ensures.1 _ (c.look-known.ensures ea) c.if-states-known-ne0.true)

pub all_members-returns-then-arrows-eq0 : goal.all_members-returns-then-arrows-eq0
all_members-returns-then-arrows-eq0 t c = (refl, λ ea. states_had _ _ _ _ _ _ c.states_of-states.ensures.0 c.states_of-states.ensures.1 _ (c.look-known.ensures ea) _ c.left_of-missing.ensures c.if-missing-eq0.true (sym c.arrows_of-arrows.ensures.0 ∙ c.if-arrows-eq0.true))

pub all_members-returns-then-missing-eq0 : goal.all_members-returns-then-missing-eq0
all_members-returns-then-missing-eq0 t c = (c.check_each.ensures.0, λ ea. c.check_each.ensures.1)

pub all_members-returns-then-not-check_states : goal.all_members-returns-then-not-check_states
all_members-returns-then-not-check_states t c = (c.check_states.ensures.0, λ ea. states_fail _ _ _ _ _ _ c.states_of-states.ensures.0 c.states_of-states.ensures.1 _ (c.look-known.ensures ea) _ c.left_of-missing.ensures _ _ _ (c.check_states.ensures.1 ea) c.if-not-check_states.true)

pub all_members-returns-then-arrows-eq0-2 : goal.all_members-returns-then-arrows-eq0-2
all_members-returns-then-arrows-eq0-2 t c = (c.check_states.ensures.0, λ ea. states_checked _ _ _ _ _ _ c.states_of-states.ensures.0 c.states_of-states.ensures.1 _ (c.look-known.ensures ea) _ c.left_of-missing.ensures _ _ _ (c.check_states.ensures.1 ea) c.if-not-check_states.false (sym c.arrows_of-arrows.ensures.0 ∙ c.if-arrows-eq0-2.true))

pub all_members-returns : goal.all_members-returns
all_members-returns t c = (c.check_each-2.ensures.0 ∙ c.check_states.ensures.0, λ ea. tells_on (c.check_states.ensures.1 ea).keeps c.check_each-2.ensures.1)

pub check_states-returns-then-found-ne0 : goal.check_states-returns-then-found-ne0
check_states-returns-then-found-ne0 t c = (c.learn_in.ensures.0 ∙ c.find_states-found.ensures.0, λ ea. all_moved _ _ _ c.args.at _ _ _ _ _ c.learn_in.ensures.1 (settled_fails _ _ _ _ _ (c.find_states-found.ensures.1 ea) c.if-found-ne0.true _ c.lowest.ensures _ c.with_bit-known.ensures _ c.learn_in.ensures.2))

pub check_states-returns-then-not-check_term : goal.check_states-returns-then-not-check_term
check_states-returns-then-not-check_term t c = (c.learn_in-then-not-check_term.ensures.0 ∙ c.check_term.ensures.0 ∙ c.loop-left.invariant.0 ∙ c.find_states-found.ensures.0, λ ea. all_moved _ _ _ c.args.at _ _ _ _ _ c.learn_in-then-not-check_term.ensures.1 (left_fails _ _ _ _ _ (c.loop-left.invariant.1 _ _ (c.find_states-found.ensures.1 ea).finds) c.loop-left-test.true _ c.lowest-q.ensures _ _ _ c.check_term.ensures.1 c.if-not-check_term.true _ c.with_bit.ensures _ c.learn_in-then-not-check_term.ensures.2))

pub check_states-loop-left-preserved : goal.check_states-loop-left-preserved
check_states-loop-left-preserved t c = (c.check_term.ensures.0 ∙ c.loop-left.invariant.0, λ m u f. left_more _ _ _ _ _ (c.loop-left.invariant.1 m u f) c.loop-left-test.true _ c.lowest-q.ensures _ _ _ c.check_term.ensures.1 c.if-not-check_term.false _ _ c.with_bit-had.ensures c.without_bit-left.ensures)

pub check_states-returns : goal.check_states-returns
check_states-returns t c = (c.learn_in-2.ensures.0 ∙ c.loop-left.invariant.0 ∙ c.find_states-found.ensures.0, λ ea. all_moved _ _ _ c.args.at _ _ _ _ _ c.learn_in-2.ensures.1 (left_end _ _ _ _ _ (c.loop-left.invariant.1 _ _ (c.find_states-found.ensures.1 ea).finds) c.loop-left-test.false _ c.learn_in-2.ensures.2))

pub one_target-returns : goal.one_target-returns
one_target-returns t c = (c.check_term.ensures.0, λ ea. c.check_term.ensures.1)

pub one_target-returns-in-Some : goal.one_target-returns-in-Some
one_target-returns-in-Some t c = (refl, λ ea. alone_checked _ _ _ _ _ _ _ c.in-Some.ensures ea (λ z. let h = c.if-node-eq2.true in omega arith) (λ z. let h = c.if-node-eq2.true in omega arith))

pub all_targets-returns-then-node-here : goal.all_targets-returns-then-node-here
all_targets-returns-then-node-here t c = (c.loop-left.invariant.0, c.loop-left.invariant.2 _ _ _ (targets_stuck _ _ _ _ _ _ c.loop-left-test.true _ (next_by _ c.args.r.now _ _ _ c.number_in-base.ensures.0 c.node_of-node.ensures) c.if-node-here.true))

pub all_targets-returns-in_default : goal.all_targets-returns-in_default
all_targets-returns-in_default t c = (c.loop-left.invariant.0, c.loop-left.invariant.2 _ _ _ (down_none _ _ _ _ _ _ _ (node_by _ c.args.r.now _ _ _ c.number_in-base.ensures.0 c.node_of-node.ensures) (c.goes_down.ensures c.if-goes_down.true).0 (c.goes_down.ensures c.if-goes_down.true).1 c.in_default.ensures))

pub all_targets-loop-left-preserved-then-goes_down : goal.all_targets-loop-left-preserved-then-goes_down
all_targets-loop-left-preserved-then-goes_down t c = (c.loop-left.invariant.0, let l = c.loop-left.invariant.1 in omega arith, λ m u b told. c.loop-left.invariant.2 m u b (down _ _ _ _ _ _ _ (node_by _ c.args.r.now _ _ _ c.number_in-base.ensures.0 c.node_of-node.ensures) (c.goes_down.ensures c.if-goes_down.true).0 (c.goes_down.ensures c.if-goes_down.true).1 _ c.in-Some.ensures (c.loop-left.here + 1) (omega arith) m u b told))

pub all_targets-returns-then-not-one_target : goal.all_targets-returns-then-not-one_target
all_targets-returns-then-not-one_target t c = (c.one_target.ensures.0 ∙ c.loop-left.invariant.0, c.loop-left.invariant.2 _ _ _ (targets_lack _ _ _ _ _ _ c.loop-left-test.true _ (next_by _ c.args.r.now _ _ _ c.number_in-base.ensures.0 c.node_of-node.ensures) _ _ _ (c.one_target.ensures.1 (node_by _ c.args.r.now _ _ _ c.number_in-base.ensures.0 c.node_of-node.ensures)) c.if-not-one_target.true))

pub all_targets-loop-left-preserved : goal.all_targets-loop-left-preserved
all_targets-loop-left-preserved t c = (c.one_target.ensures.0 ∙ c.loop-left.invariant.0, let l = c.loop-left.invariant.1 in let h = c.if-node-here.false in omega arith, λ m u b told. c.loop-left.invariant.2 m u b (targets_rest _ _ _ _ _ _ c.loop-left-test.true _ (next_by _ c.args.r.now _ _ _ c.number_in-base.ensures.0 c.node_of-node.ensures) _ _ _ (c.one_target.ensures.1 (node_by _ c.args.r.now _ _ _ c.number_in-base.ensures.0 c.node_of-node.ensures)) c.if-not-one_target.false m u b told))

pub all_targets-returns : goal.all_targets-returns
all_targets-returns t c = (c.loop-left.invariant.0, c.loop-left.invariant.2 _ _ _ (targets_none _ _ _ c.loop-left.here _ _ c.loop-left-test.false))

pub check_term-returns-then-at-ge-MAX_NODES : goal.check_term-returns-then-at-ge-MAX_NODES
check_term-returns-then-at-ge-MAX_NODES t c = (refl, term_past _ _ _ _ _ c.if-at-ge-MAX_NODES.true)

pub check_term-returns-in_default : goal.check_term-returns-in_default
check_term-returns-in_default t c = (refl, no_targets _ _ _ _ _ _ (node_by _ c.args.r.now _ _ _ c.number_in.ensures.0 c.node_of-node.ensures) c.if-node-eq0.true c.in_default.ensures)

pub check_term-returns-then-node-eq0 : goal.check_term-returns-then-node-eq0
check_term-returns-then-node-eq0 t c = (c.all_targets.ensures.0, built_checked _ _ _ _ _ _ (node_by _ c.args.r.now _ _ _ c.number_in.ensures.0 c.node_of-node.ensures) c.if-node-eq0.true _ c.in-Some.ensures (c.args.at + 1) (omega arith) _ _ _ c.all_targets.ensures.1)

pub check_term-returns-then-node-eq1 : goal.check_term-returns-then-node-eq1
check_term-returns-then-node-eq1 t c = (c.check_bound.ensures.0, c.check_bound.ensures.1 (node_by _ c.args.r.now _ _ _ c.number_in.ensures.0 c.node_of-node.ensures) c.if-node-eq1.true)

pub check_term-returns-in-Some-alone : goal.check_term-returns-in-Some-alone
check_term-returns-in-Some-alone t c = (refl, alone_checked _ _ _ _ _ _ _ c.in-Some-alone.ensures (node_by _ c.args.r.now _ _ _ c.number_in.ensures.0 c.node_of-node.ensures) c.if-node-eq0.false c.if-node-eq1.false)

pub check_term-returns : goal.check_term-returns
check_term-returns t c = (c.check_given.ensures.0, c.check_given.ensures.1 (node_by _ c.args.r.now _ _ _ c.number_in.ensures.0 c.node_of-node.ensures) c.if-node-eq0.false c.if-node-eq1.false)

pub find_bound-returns-in_default : goal.find_bound-returns-in_default
find_bound-returns-in_default t c = c.loop-left.invariant

pub find_bound-returns-then-not-args_again : goal.find_bound-returns-then-not-args_again
find_bound-returns-then-not-args_again t c = (c.args_again.ensures.0 ∙ c.loop-left.invariant.0, λ ea et. finds_on _ _ _ _ (c.loop-left.invariant.1 ea et) c.args_again.ensures.1.keeps)

pub find_bound-loop-left-preserved : goal.find_bound-loop-left-preserved
find_bound-loop-left-preserved t c = (c.note_in.ensures.0 ∙ c.args_again.ensures.0 ∙ c.loop-left.invariant.0, λ ea et. let told = tries_moved _ _ _ _ _ _ _ _ _ _ _ _ c.note_in.ensures.1 refl (try_serves _ _ _ _ _ _ _ _ c.in-Some-candidate.ensures (c.args.at + 1) (omega arith) _ _ _ c.args_again.ensures.1 c.if-not-args_again.false _ c.note_in.ensures.2) ea et in finds_more _ _ _ _ (c.loop-left.invariant.1 ea et) told.keeps _ _ (c.lowest-q.ensures.within c.loop-left-test.true) c.with_bit-had.ensures (told.yes refl))

pub find_bound-returns : goal.find_bound-returns
find_bound-returns t c = c.loop-left.invariant

pub find_given-returns-in_default : goal.find_given-returns-in_default
find_given-returns-in_default t c = (refl, λ ea nc nn. settles_found _ _ _ _ _ (finds_none _ _ _ _))

pub find_given-loop-j-preserved : goal.find_given-loop-j-preserved
find_given-loop-j-preserved t c =
    elim c.match-wanted.branch [
      | find_given-in-Some-wanted+then-args_again w ↦
          rw w.w-is (rw w.had-is (rw w.left-is (w.args_again.ensures.0 ∙ c.loop-j.invariant.0, λ ea nc nn. sought_serves _ _ _ _ _ _ _ (c.loop-j.invariant.1 ea nc nn) _ c.member_of-ty.ensures.0 _ (omega arith) _ w.in-Some-wanted.ensures (c.args.at + 1) (omega arith) _ _ _ w.args_again.ensures.1 c.in-Some.ensures.0 ea nc nn _ c.many_of-many.ensures.0 c.loop-j-test.true c.in-Some.ensures.1 w.if-args_again.true _ _ w.with_bit-had.ensures w.without_bit-left.ensures)))
      | find_given-in-Some-wanted+else-args_again w ↦
          rw w.w-is (rw w.had-is (rw w.left-is (w.args_again.ensures.0 ∙ c.loop-j.invariant.0, λ ea nc nn. sought_fails _ _ _ _ _ _ _ (c.loop-j.invariant.1 ea nc nn) _ c.member_of-ty.ensures.0 _ (omega arith) _ w.in-Some-wanted.ensures (c.args.at + 1) (omega arith) _ _ _ w.args_again.ensures.1 w.if-args_again.false _ w.with_bit-left.ensures)))
      | find_given-in_default-wanted w ↦
          rw w.w-is (rw w.had-is (rw w.left-is (c.loop-j.invariant.0, λ ea nc nn. sought_misses _ _ _ _ _ _ _ (c.loop-j.invariant.1 ea nc nn) _ c.member_of-ty.ensures.0 _ (omega arith) w.in_default-wanted.ensures)))
    ]

pub find_given-returns : goal.find_given-returns
find_given-returns t c = (c.loop-j.invariant.0, λ ea nc nn. sought_end _ _ _ _ _ _ _ (c.loop-j.invariant.1 ea nc nn) c.in-Some.ensures.0 ea nc nn _ c.many_of-many.ensures.0 (omega arith))

pub find_states-returns-then-at-ge-MAX_NODES : goal.find_states-returns-then-at-ge-MAX_NODES
find_states-returns-then-at-ge-MAX_NODES t c = (refl, λ ea. settles_found _ _ _ _ _ (finds_none _ _ _ _))

pub find_states-returns-then-number_in-lt-FEW_HINTS : goal.find_states-returns-then-number_in-lt-FEW_HINTS
find_states-returns-then-number_in-lt-FEW_HINTS t c = (refl, λ ea. settles_found _ _ _ _ _ (finds_none _ _ _ _))

pub find_states-returns-then-node-eq1 : goal.find_states-returns-then-node-eq1
find_states-returns-then-node-eq1 t c = (c.find_bound-had.ensures.0, λ ea. settles_found _ _ _ _ _ (c.find_bound-had.ensures.1 ea c.if-node-eq1.true))

pub find_states-returns-then-node-eq0 : goal.find_states-returns-then-node-eq0
find_states-returns-then-node-eq0 t c = (refl, λ ea. leaf_settles _ _ _ _ _ _ _ c.leaf_states.ensures ea c.if-node-eq0.true)

pub find_states-returns : goal.find_states-returns
find_states-returns t c = (c.find_given.ensures.0, λ ea. c.find_given.ensures.1 ea c.if-node-eq0.false c.if-node-eq1.false)

pub try_one-returns-in_default : goal.try_one-returns-in_default
try_one-returns-in_default t c = (refl, try_misses _ _ _ _ _ _ _ c.in_default.ensures)

pub try_one-returns-then-not-check_args : goal.try_one-returns-then-not-check_args
try_one-returns-then-not-check_args t c = (c.check_args.ensures.0, try_lacks _ _ _ _ _ _ _ _ c.in-Some.ensures (c.args.at + 1) (omega arith) _ _ _ c.check_args.ensures.1 c.if-not-check_args.true)

pub try_one-returns : goal.try_one-returns
try_one-returns t c = (c.note_in.ensures.0 ∙ c.check_args.ensures.0, tries_moved _ _ _ _ _ _ _ _ _ _ _ _ c.note_in.ensures.1 refl (try_serves _ _ _ _ _ _ _ _ c.in-Some.ensures (c.args.at + 1) (omega arith) _ _ _ c.check_args.ensures.1 c.if-not-check_args.false _ c.note_in.ensures.2))

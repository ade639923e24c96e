-- `fill_targets` meets its contract. The invariant: the targets at the states below q are entered.
use mathlib.Core.Path.{sym, subst}
use Rattle.tables.proofs.automaton.Filling.{TargetsTo, targets_more, targets_pass}
use Rattle.tables.proofs.automaton.fill_targets.Goals as goal
use Rattle.tables.proofs.automaton.fill_targets.Goals.{in-Some, in_default}

pub loop-q-preserved : goal.loop-q-preserved
loop-q-preserved c =
    elim c.match-place_in.branch [
      | in-Some w ↦ subst (TargetsTo _ _ _ _ _) (sym w.t-is) (targets_more c.loop-q.invariant c.requires c.loop-q-test.true _ w.in-Some.ensures _ w.packed-targets.ensures.0 w.packed-targets.ensures.1 _ w.store.ensures)
      | in_default w ↦ subst (TargetsTo _ _ _ _ _) (sym w.t-is) (targets_pass c.loop-q.invariant c.requires c.loop-q-test.true w.in_default.ensures)
    ]

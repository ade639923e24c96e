-- `next_leading` meets its contract.
use native.Mathlib.Omega.{arith}
use Rattle.index.specs.layout.Layout.{test_cells}
use Rattle.term_check.proofs.heads.Sets.{next_behind_sets}
use Rattle.term_check.proofs.heads.Next.{before_none, before_all, before_found, before_more, listed_is, next_behind}
use Rattle.term_check.proofs.heads.next_leading.Goals as goal

pub loop-next-init : goal.loop-next-init
loop-next-init c = (omega arith, λ low. before_none _ _ _ _)

pub returns-then-high-binding : goal.returns-then-high-binding
returns-then-high-binding c =
    (tt, λ low. before_all _ _ _ _ (before_found _ _ _ _ (c.loop-next.invariant.1 low) _ _ (next_behind_sets _ test_cells _ _ c.candidates_at-row.ensures _ _ _ c.next_in-binding.ensures)) _ c.group_of-high.ensures.0 c.if-high-binding.true)

pub returns-in-Some : goal.returns-in-Some
returns-in-Some c = (
  (let w = c.group_of-high.ensures.1 in let h = c.if-high-binding.false in omega arith),
  λ low.
      let finds = next_behind_sets _ test_cells _ _ c.candidates_at-row.ensures _ _ _ c.next_in-binding.ensures in
      let b = next_behind _ _ _ _ _ c.next_in-binding.ensures (let h = c.loop-next-test.true in omega arith) in
      let l = c.loop-next.invariant.0 in
      let h = c.if-high-binding.false in
      let e = c.group_of-high.ensures.0 in (
        (omega arith),
        (omega arith),
        (before_found _ _ _ _ (c.loop-next.invariant.1 low) _ _ finds).misses,
        listed_is _ _ _ _ _ _ _ _ finds h (omega arith) e c.in-Some.ensures,
      ),
)

pub loop-next-smaller : goal.loop-next-smaller
loop-next-smaller c = let h = c.loop-next-test.true in let b = next_behind _ _ _ _ _ c.next_in-binding.ensures (omega arith) in omega arith

pub loop-next-preserved : goal.loop-next-preserved
loop-next-preserved c = (
  (let b = next_behind _ _ _ _ _ c.next_in-binding.ensures (let h = c.loop-next-test.true in omega arith) in let l = c.loop-next.invariant.0 in omega arith),
  λ low.
      let finds = next_behind_sets _ test_cells _ _ c.candidates_at-row.ensures _ _ _ c.next_in-binding.ensures in
      let l = c.loop-next.invariant.0 in
      before_more _ _ _ _ (c.loop-next.invariant.1 low) _ _ finds (listed_is _ _ _ _ _ _ _ _ finds c.if-high-binding.false (omega arith) c.group_of-high.ensures.0 c.in_default.ensures) _ (omega arith),
)

pub returns : goal.returns
returns c = (tt, λ low. before_all _ _ _ _ (c.loop-next.invariant.1 low) _ c.group_of-high.ensures.0 c.loop-next-test.false)

-- `arguments_fit` meets its contract: what is left of the arguments leads to the result of all of them.
use native.Mathlib.Omega.{arith}
use Rattle.bodies.proofs.Loop.{leads_start, leads_end, leads_short, leads_misfit, leads_next, first_deep}
use Rattle.bodies.proofs.Heads.arguments_fit.Goals as goal

pub returns-then-k-eq0 : goal.returns-then-k-eq0
returns-then-k-eq0 c = let q = c.requires in leads_end leads_start c.if-k-eq0.true q.at_small q.head_small

pub returns-in_err-first : goal.returns-in_err-first
returns-in_err-first c = rw c.from_residual.ensures (leads_short leads_start (omega (arith, c.if-k-eq0.false)) (c.requires.held.behind c.in_err-first.was))

pub returns-in_err-sort : goal.returns-in_err-sort
returns-in_err-sort c =
    rw c.from_residual-in_err-sort.ensures
    (leads_misfit leads_start (omega (arith, c.if-k-eq0.false)) _ _ c.apply.ensures.applied (c.requires.held.sort_is _ c.in_ok-first.was) c.in_err-sort.was)

pub loop-init : goal.loop-init
loop-init c =
    let q = c.requires.held in
    let is = c.in_ok-first.was in
    record {
      leads = leads_next leads_start (omega (arith, c.if-k-eq0.false)) _ _ _ _ _ _ (q.inside _ is) c.apply.ensures.applied (q.sort_is _ is) c.in_ok-sort.was (q.end_is _ is) (first_deep (q.deep_is _ is)) (omega arith);
      end_small = omega (arith, q.end_is _ is, c.type_inv.ends c.args.at);
      sort_small = c.in_ok-sort.ensures.small;
    }

pub returns-then-n-end : goal.returns-then-n-end
returns-then-n-end c = leads_short c.loop.invariant.leads (omega arith) c.if-n-end.true

pub returns-in_err-sort-2 : goal.returns-in_err-sort-2
returns-in_err-sort-2 c =
    rw c.from_residual-in_err-sort-2.ensures (leads_misfit c.loop.invariant.leads (omega arith) _ _ c.apply-in-loop.ensures.applied c.place_at.ensures.value c.in_err-sort-2.was)

pub loop-preserved : goal.loop-preserved
loop-preserved c =
    let i = c.loop.invariant in
    record {
      leads = leads_next i.leads (omega arith) _ _ _ _ _ _ c.if-n-end.false c.apply-in-loop.ensures.applied c.place_at.ensures.value c.in_ok-sort-2.was c.place_at-end.ensures.value (let e = c.place_at-in-loop.ensures.value in rw (← e) c.max-deep.ensures) (omega arith);
      end_small = c.place_at-end.ensures.bound;
      sort_small = c.in_ok-sort-2.ensures.small;
    }

pub returns : goal.returns
returns c = let i = c.loop.invariant in leads_end i.leads (omega arith) i.end_small i.sort_small

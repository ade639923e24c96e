-- `descend_held` meets its contract.
use Rattle.replay.proofs.letters.Letters.{lost_by, descend_not, descend_lost, descend_never, descend_does}
use Rattle.replay.proofs.letters.descend_held.Goals as goal

pub returns-in_default : goal.returns-in_default
returns-in_default c = descend_not c.in_default.not-Constructor

pub returns-in_err-state : goal.returns-in_err-state
returns-in_err-state c =
    rw (lost_by _ _ _ c.from_residual.ensures.1 c.in_err-state.ensures.ok_part c.in_err-state.ensures.value)
    (descend_lost _ c.in-Constructor.is _ c.row_of-row.ensures _ c.arity_of-arity.ensures _ c.target_for.ensures c.in_err-state.ensures.ok_part)

pub returns-in_err-front : goal.returns-in_err-front
returns-in_err-front c =
    rw (lost_by _ _ _ c.from_residual-in_err-front.ensures.1 c.in_err-front.ensures.ok_part c.in_err-front.ensures.value)
    (descend_never _ c.in-Constructor.is _ c.row_of-row.ensures _ c.arity_of-arity.ensures _ c.target_for.ensures _ c.in_ok-state.ensures.ok_part _ c.closure_at.ensures _ c.in_ok-closure.ensures.ok_part _ _ _ c.at.ensures c.frame.ensures.block c.frame.ensures.count _ c.gather.ensures c.in_err-front.ensures.ok_part)

pub returns : goal.returns
returns c = descend_does _ c.in-Constructor.is _ c.row_of-row.ensures _ c.arity_of-arity.ensures _ c.target_for.ensures _ c.in_ok-state.ensures.ok_part _ c.closure_at.ensures _ c.in_ok-closure.ensures.ok_part _ _ _ c.at.ensures c.frame.ensures.block c.frame.ensures.count _ c.gather.ensures _ c.in_ok-front.ensures.ok_part

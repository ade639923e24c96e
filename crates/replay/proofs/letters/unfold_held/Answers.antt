-- `unfold_held` meets its contract.
use Rattle.replay.proofs.letters.Letters.{lost_by, unfold_not, unfold_itself, unfold_none, unfold_large, unfold_does}
use Rattle.replay.proofs.letters.unfold_held.Goals as goal

pub returns-in_default : goal.returns-in_default
returns-in_default c = unfold_not _ _ _ _ _ _ c.in_default.not-Nonterminal

pub returns-then-tables-number : goal.returns-then-tables-number
returns-then-tables-number c = unfold_itself _ _ _ _ _ _ _ c.in-Nonterminal.is c.if-tables-number.true

pub returns-in_err-front : goal.returns-in_err-front
returns-in_err-front c =
    rw (lost_by _ _ _ c.from_residual.ensures.1 c.in_err-front.ensures.ok_part c.in_err-front.ensures.value)
    (unfold_none _ _ _ _ _ _ _ c.in-Nonterminal.is c.if-tables-number.false _ c.place_at-at.ensures.value c.place_at-at.ensures.bound _ c.gather.ensures c.in_err-front.ensures.ok_part)

pub returns-then-front-gt-MAX_TERM : goal.returns-then-front-gt-MAX_TERM
returns-then-front-gt-MAX_TERM c = unfold_large _ _ _ _ _ _ _ c.in-Nonterminal.is c.if-tables-number.false _ c.place_at-at.ensures.value c.place_at-at.ensures.bound _ c.gather.ensures _ c.in_ok-front.ensures.ok_part c.if-front-gt-MAX_TERM.true

pub returns : goal.returns
returns c = unfold_does _ _ _ _ _ _ _ c.in-Nonterminal.is c.if-tables-number.false _ c.place_at-at.ensures.value c.place_at-at.ensures.bound _ c.gather.ensures _ c.in_ok-front.ensures.ok_part c.if-front-gt-MAX_TERM.false

-- What is written of a dropped binding as numbers is read again: states have the numbers below 16.
use Prim.Native.Nat.{ℕ, ◌+◌, ◌-◌, ◌<◌}
use mathlib.Core.Path.{◌≡◌, refl, ap}
use mathlib.Core.Option.{some}
use native.Mathlib.Omega.{arith}
use borrow.Author.Tests.{lt-ltb, le-ltb}
use lib.ListN.{get_or}
use Rattle.casefile.specs.Explanations.{Wanted, of_state, of_type, Explanation, goal_number, four_numbers}
use Rattle.verdict_lines.specs.Lines.{wanted_as, explanation_as}

-- the type wanted
pub wanted_as_goal_number : (w : Wanted) → ((q : ℕ) → w ≡ of_state q → q < 16) → wanted_as (goal_number w) ≡ w
unfolding wanted_as goal_number
wanted_as_goal_number (of_state q) below = rw (lt-ltb q 16 (below q refl))
wanted_as_goal_number (of_type m) below =
    let e : 16 + m - 16 ≡ m = omega arith in
    rw (le-ltb (16 + m) 16 (omega arith)) (ap of_type e)

-- the explanation of a dropped binding, from the first three of its four numbers
pub explanation_as_four_numbers : (e : Explanation) → ((q : ℕ) → e.wanted ≡ of_state q → q < 16) → explanation_as (get_or (four_numbers (some e)) 0 0) (get_or (four_numbers (some e)) 1 0) (get_or (four_numbers (some e)) 2 0) ≡ e
unfolding four_numbers
explanation_as_four_numbers e below =
    ap (λ (w : Wanted). record { round = e.round; node = e.node; wanted = w }) (wanted_as_goal_number e.wanted below)

-- The order of pairs, by what the library's comparison answers.
use Prim.Native.Nat.{ℕ}
use mathlib.Core.Path.{◌≡◌, refl}
use mathlib.Core.Bool.{Bool, true, false, cond, ◌&&◌, ◌||◌}
use lib.Dec.{ltb, eqb}
use Rattle.std.specs.Prelude.{Some}
use Rattle.std.specs.Ordering.{partial_lt, partial_ordering_then, nat_cmp, is_some_and, is_lt}
use Rattle.std.specs.declared.cmp.Ordering.TheVariants.{Less, Equal, Greater}
use Rattle.casefile.specs.Refusals.{before}

by_tests : (less same also tied : Bool) → is_some_and is_lt (partial_ordering_then (Some (cond less Less (cond same Equal Greater))) (Some (cond also Less (cond tied Equal Greater)))) ≡ (less || (same && also))
by_tests true same also tied = refl
by_tests false false also tied = refl
by_tests false true true tied = refl
by_tests false true false true = refl
by_tests false true false false = refl

pub before_is : (a b c d : ℕ) → partial_lt {X = ℕ × ℕ} (λ x y. partial_ordering_then (Some (nat_cmp x.0 y.0)) (Some (nat_cmp x.1 y.1))) (a, b) (c, d) ≡ before a b c d
unfolding before
before_is a b c d = by_tests (ltb a c) (eqb a c) (ltb b d) (eqb b d)

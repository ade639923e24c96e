-- The targets of a transition: the first ones, as many as the arity, and those past them.
use Prim.Native.Nat.{ℕ, ◌-◌, min}
use mathlib.Core.Path.{◌≡◌, sym, ap, ◌∙◌}
use mathlib.Core.Bool.{Bool, true, false, ◌||◌}
use mathlib.Core.List.{List}
use lib.Dec.{leb, ltb}
use lib.ListN.{length, take, drop, length-drop}
use lib.Seq.{take-length}
use Rattle.std.proofs.lemmas.List.{take_min, drop_min}
use Rattle.scheme.specs.Lists.{any}
use Rattle.casefile.specs.Refusals.{wrong_targets_spec}

-- a payload behind its first n bytes, as a slice
pub behind : (n : ℕ) (p : List ℕ) → take (length p - n) (drop n p) ≡ drop n p
behind n p = ap (λ m. take m (drop n p)) (sym (length-drop n p)) ∙ take-length (drop n p)

module _ (states arity m : ℕ) (ts : List ℕ) (e : m ≡ min arity (length ts)) where
  pub first_targets : take m ts ≡ take arity ts
  first_targets = ap (λ n. take n ts) e ∙ take_min arity ts

  pub rest_targets : take (length ts - m) (drop m ts) ≡ drop arity ts
  rest_targets = behind m ts ∙ ap (λ n. drop n ts) e ∙ drop_min arity ts

pub first_wrong : (states arity : ℕ) (ts : List ℕ) (b : Bool) → b ≡ any (λ (t : ℕ). leb states t) (take arity ts) → b ≡ true → b ≡ wrong_targets_spec states arity ts
unfolding wrong_targets_spec
first_wrong states arity ts b is met = met ∙ sym (ap (λ a. a || any (λ (t : ℕ). ltb 0 t) (drop arity ts)) (sym is ∙ met))

pub rest_wrong : (states arity : ℕ) (ts : List ℕ) (b r : Bool) → b ≡ any (λ (t : ℕ). leb states t) (take arity ts) → b ≡ false → r ≡ any (λ (t : ℕ). ltb 0 t) (drop arity ts) → r ≡ wrong_targets_spec states arity ts
unfolding wrong_targets_spec
rest_wrong states arity ts b r is unmet rest = rest ∙ sym (ap (λ a. a || any (λ (t : ℕ). ltb 0 t) (drop arity ts)) (sym is ∙ unmet))

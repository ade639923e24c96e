-- The tests over the whole file, 8 to 12, one after the other: what is left when those before were not met.
use Prim.Native.Nat.{ℕ, ◌+◌, ◌<◌, ◌≤◌}
use native.Mathlib.Omega.{arith}
use mathlib.Core.Path.{◌≡◌, refl, sym, ap, ap₂, ◌∙◌}
use mathlib.Core.Bool.{Bool, true, false, ◌&&◌, ◌||◌, not}
use mathlib.Core.List.{List, [], ◌∷◌, ◌++◌, map}
use mathlib.Core.Option.{Option, none, some}
use borrow.Author.Tests.{eq-eqb, ne_eqb, lt-ltb, le-ltb}
use lib.Dec.{ltb, eqb}
use lib.ListN.{length, get_or}
use Rattle.scheme.specs.Lists.{choose◌then◌else◌}
use Rattle.casefile.specs.Fields.{word}
use Rattle.casefile.specs.Records.{Record}
use Rattle.casefile.specs.Kinds.{nonterminal, rule, states, type, binding, path, of_kind, payloads, count, place_of}
use Rattle.casefile.specs.Tables.{arities_of, signatures_of, bindings_of}
use Rattle.casefile.specs.Refusals.{Refusal, Test, refuse◌at◌when◌, first, wrong_start, wrong_bodies, misfits, refuse_whole}

-- a refusal, or what comes behind it
or_else : Option Refusal → Option Refusal → Option Refusal
or_else none y = y
or_else (some x) y = some x

or_else_assoc : (x y z : Option Refusal) → or_else (or_else x y) z ≡ or_else x (or_else y z)
unfolding or_else
or_else_assoc none y z = refl
or_else_assoc (some x) y z = refl

or_else_if : (b : Bool) (x : Refusal) (y z : Option Refusal) → or_else (choose b then some x else y) z ≡ (choose b then some x else or_else y z)
unfolding or_else
or_else_if true x y z = refl
or_else_if false x y z = refl

or_else_some : (x y : Option Refusal) (r : Refusal) → x ≡ some r → or_else x y ≡ some r
unfolding or_else
or_else_some x y r e = ap (λ z. or_else z y) e

or_else_none : (x y : Option Refusal) → x ≡ none → or_else x y ≡ y
unfolding or_else
or_else_none x y e = ap (λ z. or_else z y) e

if_true : {A : Type 0} (b : Bool) (x y : A) → b ≡ true → (choose b then x else y) ≡ x
if_true b x y e = ap (λ z. choose z then x else y) e

if_false : {A : Type 0} (b : Bool) (x y : A) → b ≡ false → (choose b then x else y) ≡ y
if_false b x y e = ap (λ z. choose z then x else y) e

first_append : (xs ys : List Test) → first (xs ++ ys) ≡ or_else (first xs) (first ys)
unfolding first or_else
first_append [] ys = refl
first_append ((refuse n at p when true) ∷ xs) ys = refl
first_append ((refuse n at p when false) ∷ xs) ys = first_append xs ys

first_one : (n p : ℕ) (b : Bool) (ts : List Test) → first ((refuse n at p when b) ∷ ts) ≡ (choose b then some (record { number = n; place = p }) else first ts)
unfolding first
first_one n p b ts = refl

first_nil : first [] ≡ none
unfolding first
first_nil = refl

module _ (rs : List Record) (flags : ℕ) where
  abbrev wrong8 : Bool
  wrong8 = eqb (count states rs) 0 || eqb (count nonterminal rs) 0 || not (eqb (count rule rs) (count nonterminal rs))

  abbrev wrong10 : Bool
  wrong10 = ltb 0 (count type rs + count binding rs) && ltb 0 (count path rs)

  abbrev bodies : Option Refusal
  bodies = first (wrong_bodies (arities_of rs) (signatures_of rs) (signatures_of rs) (of_kind rule rs))

  abbrev unfit : Option Refusal
  unfit = first (misfits (signatures_of rs) (bindings_of rs) (of_kind binding rs))

  -- what is left behind each test
  abbrev from12 : Option Refusal
  from12 = choose ltb flags (count binding rs) then some (record { number = 12; place = 0 }) else none

  abbrev from10 : Option Refusal
  from10 = choose wrong10 then some (record { number = 10; place = 0 }) else or_else unfit from12

  -- all of them, in order
  whole_is : refuse_whole rs flags ≡ (choose wrong8 then some (record { number = 8; place = 0 }) else or_else (first (wrong_start (of_kind nonterminal rs))) (or_else bodies from10))
  unfolding refuse_whole
  whole_is = simp (first_append, first_one, first_nil, or_else_assoc, or_else_if)

  -- 8
  pub met_8 : wrong8 ≡ true → refuse_whole rs flags ≡ some (record { number = 8; place = 0 })
  met_8 e = whole_is ∙ if_true _ _ _ e

  module _ (no8 : wrong8 ≡ false) where
    past_8 : refuse_whole rs flags ≡ or_else (first (wrong_start (of_kind nonterminal rs))) (or_else bodies from10)
    past_8 = whole_is ∙ if_false _ _ _ no8

    -- 9, the start
    pub met_start : (x : Refusal) → first (wrong_start (of_kind nonterminal rs)) ≡ some x → refuse_whole rs flags ≡ some x
    met_start x e = past_8 ∙ or_else_some _ _ x e

    module _ (fine : first (wrong_start (of_kind nonterminal rs)) ≡ none) where
      past_start : refuse_whole rs flags ≡ or_else bodies from10
      past_start = past_8 ∙ or_else_none _ _ fine

      -- 9, a body
      pub met_body : (x : Refusal) → bodies ≡ some x → refuse_whole rs flags ≡ some x
      met_body x e = past_start ∙ or_else_some _ _ x e

      module _ (sorted : bodies ≡ none) where
        past_bodies : refuse_whole rs flags ≡ from10
        past_bodies = past_start ∙ or_else_none _ _ sorted

        -- 10
        pub met_10 : wrong10 ≡ true → refuse_whole rs flags ≡ some (record { number = 10; place = 0 })
        met_10 e = past_bodies ∙ if_true _ _ _ e

        module _ (no10 : wrong10 ≡ false) where
          past_10 : refuse_whole rs flags ≡ or_else unfit from12
          past_10 = past_bodies ∙ if_false _ _ _ no10

          -- 11
          pub met_11 : (x : Refusal) → unfit ≡ some x → refuse_whole rs flags ≡ some x
          met_11 x e = past_10 ∙ or_else_some _ _ x e

          -- 12
          pub met_12 : unfit ≡ none → flags < count binding rs → refuse_whole rs flags ≡ some (record { number = 12; place = 0 })
          met_12 e h = past_10 ∙ or_else_none _ _ e ∙ if_true _ _ _ (lt-ltb flags (count binding rs) h)

          -- none of them
          pub met_none : unfit ≡ none → count binding rs ≤ flags → refuse_whole rs flags ≡ none
          met_none e h = past_10 ∙ or_else_none _ _ e ∙ if_false _ _ _ (le-ltb flags (count binding rs) h)

-- The start symbol's sort.
module _ (rs : List Record) (n : ℕ) (s place : ℕ) (some-there : 0 < count nonterminal rs) (is_sort : s ≡ word (get_or (payloads nonterminal rs) 0 []) 0) (is_place : place ≡ place_of nonterminal rs 0) where
  start_tests : first (wrong_start (of_kind nonterminal rs)) ≡ (choose not (eqb s 0) then some (record { number = 9; place = place }) else none)
  unfolding wrong_start count payloads
  start_tests = by (of_kind nonterminal rs) some-there is_sort is_place
    where
      by : (l : List Record) → 0 < length l → s ≡ word (get_or (map (λ (r : Record). r.payload) l) 0 []) 0 → place ≡ get_or (map (λ (r : Record). r.place) l) 0 0
          → first (wrong_start l) ≡ (choose not (eqb s 0) then some (record { number = 9; place = place }) else none)
      by [] h e f = absurd (omega arith)
      by (r ∷ l) h e f = first_one 9 r.place (not (eqb (word r.payload 0) 0)) [] ∙ ap₂ (λ x y. choose not (eqb x 0) then some (record { number = 9; place = y }) else first []) (sym e) (sym f) ∙ ap (λ z. choose not (eqb s 0) then some (record { number = 9; place = place }) else z) first_nil

  pub start_wrong : (s ≡ 0 → ⊥) → first (wrong_start (of_kind nonterminal rs)) ≡ some (record { number = 9; place = place })
  start_wrong ne = start_tests ∙ if_true _ _ _ (ap not (ne_eqb s 0 ne))

  pub start_right : s ≡ 0 → first (wrong_start (of_kind nonterminal rs)) ≡ none
  start_right e = start_tests ∙ if_false _ _ _ (ap not (eq-eqb s 0 e))

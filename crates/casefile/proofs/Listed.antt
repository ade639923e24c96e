-- The types that records list are closed: the result and the members of an arrow among them are states or listed too; and so is
-- the type of each binding, and each type that a search for a reason wants.
use Prim.Native.Nat.{ℕ, zero, suc}
use native.Mathlib.Omega.{arith}
use mathlib.Core.Path.{◌≡◌, refl, sym, subst}
use mathlib.Core.Logic.{◌⊎◌, inl, inr}
use mathlib.Core.Bool.{Bool, true, false}
use mathlib.Core.List.Memᴰ
use mathlib.Core.List.{List, [], ◌∷◌, ◌++◌, map, Memᴰ}
use lib.Dec.{eqb}
use lib.ListN.{length, get_or}
use Rattle.scheme.specs.Lists.{choose◌then◌else◌, Subset}
use Rattle.scheme.specs.Reduction.{Plan}
use Rattle.scheme.specs.Types.{Ty, state, arrow, Tys, members}
use Rattle.scheme.specs.Typing.{Automaton, Binding}
use Rattle.scheme.specs.ReasonRules.{ReasonByRules}
use Rattle.scheme.proofs.Reasons.{reason_listed}
use Rattle.casefile.specs.Fields.{byte, word}
use Rattle.casefile.specs.Records.{Record}
use Rattle.casefile.specs.Kinds.{Kind, payloads}
use Rattle.casefile.specs.Tables.{grow, words, members_at, arrow_from, type_from, types_of, bindings_of}
use Rattle.casefile.proofs.TypeNumbers.{members_out}

-- a state, or a type of a list
unfoldable pub Listed : List Ty → Ty → Type 0
Listed types (state q) = Unit {0}
Listed types (arrow a r) = Memᴰ (arrow a r) types

pub listed_in : (types : List Ty) (τ : Ty) → Memᴰ τ types → Listed types τ
unfolding Listed
listed_in types (state q) m = tt
listed_in types (arrow a r) m = m

listed_more : (types more : List Ty) (τ : Ty) → Subset types more → Listed types τ → Listed more τ
unfolding Listed
listed_more types more (state q) sub h = tt
listed_more types more (arrow a r) sub h = sub (arrow a r) h

-- whatever a number names is listed, or a state
pub listed_at : (types : List Ty) (m : ℕ) → Listed types (get_or types m (state 0))
unfolding Listed
listed_at [] m = tt
listed_at (σ ∷ types) zero = listed_in (σ ∷ types) σ (Memᴰ.head refl)
listed_at (σ ∷ types) (suc m) = listed_more types (σ ∷ types) (get_or types m (state 0)) (λ τ k. Memᴰ.tail k) (listed_at types m)

-- the result and the members of a type
abbrev Parts : List Ty → Tys → Ty → Type 0
Parts types a r = Listed types r × ((m : Ty) → Memᴰ m (members a) → Listed types m)

made_parts : (types : List Ty) (p : List ℕ) (a : Tys) (r : Ty) → arrow a r ≡ type_from types p → Parts types a r
unfolding type_from arrow_from
made_parts types p a r e = go (eqb (length p) 1) (words p) e
  where
    go : (v : Bool) (ns : List ℕ) → arrow a r ≡ (choose v then state (byte p 0) else arrow_from types ns) → Parts types a r
    go true ns f = absurd (let z : ◌≡◌ {A = ℕ} 0 1 = cc in omega arith)
    go false [] f = absurd (let z : ◌≡◌ {A = ℕ} 0 1 = cc in omega arith)
    go false (x ∷ ms) f =
        let er : get_or types x (state 0) ≡ r = cc in
        let ea : members_at types ms ≡ a = cc in
        (subst (Listed types) er (listed_at types x), λ t k. let (m, i, em) = members_out types ms t (subst (λ b. Memᴰ t (members b)) (sym ea) k) in subst (Listed types) em (listed_at types m))

-- the table stays closed
grow_closed : (types : List Ty) (ps : List (List ℕ)) → ((a : Tys) (r : Ty) → Memᴰ (arrow a r) types → Parts types a r) → (a : Tys) (r : Ty) → Memᴰ (arrow a r) (grow type_from types ps) → Parts (grow type_from types ps) a r
unfolding grow
grow_closed types [] closed = closed
grow_closed types (p ∷ ps) closed = grow_closed (types ++ (type_from types p ∷ [])) ps (λ a r m. more a r (by a r (Memᴰ.append_cases types m)))
  where
    by : (a : Tys) (r : Ty) → Memᴰ (arrow a r) types ⊎ Memᴰ (arrow a r) (type_from types p ∷ []) → Parts types a r
    by a r (inl m) = closed a r m
    by a r (inr m) = made_parts types p a r (Memᴰ.eq_of_singleton m)

    more : (a : Tys) (r : Ty) → Parts types a r → Parts (types ++ (type_from types p ∷ [])) a r
    more a r (result, each) =
        let sub : Subset types (types ++ (type_from types p ∷ [])) = λ τ m. Memᴰ.append_left (type_from types p ∷ []) m in
        (listed_more types (types ++ (type_from types p ∷ [])) r sub result, λ t k. listed_more types (types ++ (type_from types p ∷ [])) t sub (each t k))

map_out : {A B : Type 0} (f : A → B) (l : List A) {b : B} → Memᴰ b (map f l) → (x : A) × (b ≡ f x)
map_out f [] m = absurd (Memᴰ.not-nil m)
map_out {A} f (x ∷ xs) {b} m = go (Memᴰ.cases_cons m) (λ k. map_out f xs k)
  where
    go : (b ≡ f x) ⊎ Memᴰ b (map f xs) → (Memᴰ b (map f xs) → (y : A) × (b ≡ f y)) → (y : A) × (b ≡ f y)
    go (inl e) ih = (x, e)
    go (inr k) ih = ih k

module _ (rs : List Record) where
  -- THE TYPES of records are closed
  pub types_closed : (a : Tys) (r : Ty) → Memᴰ (arrow a r) (types_of rs) → Listed (types_of rs) r × ((m : Ty) → Memᴰ m (members a) → Listed (types_of rs) m)
  unfolding types_of
  types_closed = grow_closed [] (payloads Kind.type rs) (λ a r m. absurd (Memᴰ.not-nil m))

  -- the type of each binding is listed
  pub bindings_listed : (b : Binding) → Memᴰ b (bindings_of rs) → Listed (types_of rs) b.type
  unfolding bindings_of
  bindings_listed b m =
      let (p, e) = map_out (λ (p : List ℕ). record { nonterminal = word p 0; type = get_or (types_of rs) (word p 2) (state 0) }) (payloads Kind.binding rs) m in
      subst (λ (c : Binding). Listed (types_of rs) c.type) (sym e) (listed_at (types_of rs) (word p 2))

  -- what a search wants, for one of the bindings and under any of them, is a state or listed
  pub wanted_listed : (Matches : Ty → Ty → Type 0) (aut : Automaton) (plan : Plan) (env : List Binding) (b : Binding) → Subset env (bindings_of rs) → Memᴰ b (bindings_of rs)
      → {k : ℕ} {σ : Ty} → ReasonByRules Matches aut plan env b k σ → Listed (types_of rs) σ
  unfolding Listed
  wanted_listed Matches aut plan env b sub m e =
      reason_listed (Listed (types_of rs)) types_closed (λ q. tt) aut env (λ c k. bindings_listed c (sub c k)) Matches plan b (bindings_listed b m) e

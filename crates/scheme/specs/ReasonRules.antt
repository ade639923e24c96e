-- The search for a reason as plain statements, beside specs/Reasons.antt. Note 2 of the change requests.
use Rattle.std.specs.Prelude.{ℕ, suc, ◌+◌, ◌≡◌}
use mathlib.Core.List.{List, ◌∷◌, Memᴰ}
use Rattle.std.proofs.Math.Option.{some}
use Rattle.scheme.specs.Terms.{Head, Term, node, Terms, ◌∷ᵗ◌, countᵗ, nodes}
use Rattle.scheme.specs.Reduction.{Plan, body}
use Rattle.scheme.specs.Types.{Ty, arrow, Tys, members, domains, off, final}
use Rattle.scheme.specs.Typing.{Automaton, Binding, head_types}
use Rattle.scheme.specs.TypingRules.{HasType}

-- x is the first element of a list of which P is true
pub data First {A : Type 0} (P : A → Type 0) : List A → A → Type 0 where
  at_once : {x : A} {xs : List A} → P x → First P (x ∷ xs) x
  behind : {x y : A} {xs : List A} → (P y → ⊥) → First P xs x → First P (y ∷ xs) x

-- "A type of a head leads to a goal when, one arrow off for each argument, it is the goal", over what it takes for a type to match
abbrev pub LeadsOff : (Ty → Ty → Type 0) → ℕ → Ty → Ty → Type 0
LeadsOff Matches count goal τ = (ρ : Ty) × (off count τ ≡ some ρ) × Matches ρ goal

-- The search, over what it takes for a type to match a goal (`Matches`) and over the types of each head.
module _ (Matches : Ty → Ty → Type 0) (heads : Head → List Ty) where
  -- a term has a type, by the typing rules
  abbrev pub HasHere : Term → Ty → Type 0
  HasHere = HasType Matches (λ h τ. Memᴰ τ (heads h))

  mutual
    -- the search at a term for a goal ends at node k of it, counted from its head on, and with the type wanted there
    pub data SearchEnds : Term → Ty → ℕ → Ty → Type 0 where
      -- "If no type of the head leads to the goal, this node is the reason"
      this_node : {h : Head} {ts : Terms} {goal : Ty} → ((τ : Ty) → Memᴰ τ (heads h) → LeadsOff Matches (countᵗ ts) goal τ → ⊥) → SearchEnds (node h ts) goal 0 goal
      -- "Otherwise it takes the head's lowest-numbered leading type"
      an_argument : {h : Head} {ts : Terms} {goal τ σ : Ty} {k : ℕ} → First (LeadsOff Matches (countᵗ ts) goal) (heads h) τ → SearchEndsIn ts τ k σ → SearchEnds (node h ts) goal (suc k) σ

    -- "and goes to the first argument that lacks a member, at its first missing member"
    pub data SearchEndsIn : Terms → Ty → ℕ → Ty → Type 0 where
      the_first : {t : Term} {ts : Terms} {a : Tys} {r m σ : Ty} {k : ℕ} → First (λ m. HasHere t m → ⊥) (members a) m → SearchEnds t m k σ → SearchEndsIn (t ∷ᵗ ts) (arrow a r) k σ
      a_later : {t : Term} {ts : Terms} {a : Tys} {r σ : Ty} {k : ℕ} → ((m : Ty) → Memᴰ m (members a) → HasHere t m) → SearchEndsIn ts r k σ → SearchEndsIn (t ∷ᵗ ts) (arrow a r) (nodes t + k) σ

-- "The search starts at the body with its final state", under a set of bindings, and ends at node k with the type wanted there
abbrev pub ReasonByRules : (Ty → Ty → Type 0) → Automaton → Plan → List Binding → Binding → ℕ → Ty → Type 0
ReasonByRules Matches aut plan env b k σ = SearchEnds Matches (head_types aut env (domains b.type)) (body plan b.nonterminal) (final b.type) k σ

-- The typing rules of Kobayashi (2009) as plain statements, beside the tests of specs/Typing.antt. Section "Types and shrinking" of the scope.
use Rattle.std.specs.Prelude.{ℕ, ◌<◌, ◌≡◌, get_or}
use mathlib.Core.List.{List, [], Memᴰ}
use Rattle.std.proofs.Math.Option.{some}
use Rattle.scheme.specs.Terms.{Head, con, nt, par, Term, node, Terms, []ᵗ, ◌∷ᵗ◌}
use Rattle.scheme.specs.Reduction.{Plan, body}
use Rattle.scheme.specs.Types.{Ty, arrow, Tys, members, takes, domains, final}
use Rattle.scheme.specs.Typing.{Automaton, Binding}

-- a head has a type, under a set of bindings and the members given for the parameters
pub data HeadHas (aut : Automaton) (env : List Binding) (given : List (List Ty)) : Head → Ty → Type 0 where
  -- "A nonterminal has the types bound to it"
  of_binding : {b : Binding} → Memᴰ b env → HeadHas aut env given (nt b.nonterminal) b.type
  -- "a parameter the members given for it"
  of_parameter : (i : ℕ) {τ : Ty} → Memᴰ τ (get_or given i []) → HeadHas aut env given (par i) τ
  -- "With a transition from q to q1..qn, its constructor has exactly the type taking {q1}, .., {qn} to q; without one, none at q"
  of_transition : (q c : ℕ) (qs : List ℕ) → q < aut.states → aut.targets q c ≡ some qs → HeadHas aut env given (con c) (takes qs q)

-- The rules, over what it takes for a type to match a goal (`Matches`) and over the types of each head.
module _ (Matches : Ty → Ty → Type 0) (Heads : Head → Ty → Type 0) where
  mutual
    -- a term has a type when some type of its head leads to it
    pub data HasType : Term → Ty → Type 0 where
      by_head : {h : Head} {ts : Terms} {τ goal : Ty} → Heads h τ → LeadsTo ts τ goal → HasType (node h ts) goal

    -- "A type of a head leads to a goal when, one arrow off for each argument, it is the goal"
    pub data LeadsTo : Terms → Ty → Ty → Type 0 where
      -- no argument is left, and the type matches the goal
      by_match : {τ goal : Ty} → Matches τ goal → LeadsTo []ᵗ τ goal
      -- "Applying a head takes one arrow off a type of the head; the argument must have every member, and the result is the type with that arrow off"
      by_argument : {t : Term} {ts : Terms} {a : Tys} {r goal : Ty} → ((m : Ty) → Memᴰ m (members a) → HasType t m) → LeadsTo ts r goal → LeadsTo (t ∷ᵗ ts) (arrow a r) goal

-- "A binding holds when the body has the final state, given the members for the parameters"
abbrev pub HoldsBy : (Ty → Ty → Type 0) → Automaton → Plan → List Binding → Binding → Type 0
HoldsBy Matches aut plan env b = HasType Matches (HeadHas aut env (domains b.type)) (body plan b.nonterminal) (final b.type)

-- a binding holds by the rules: "Types match when they are the same type, nothing looser"
abbrev pub HoldsByRules : Automaton → Plan → List Binding → Binding → Type 0
HoldsByRules = HoldsBy (λ a b. a ≡ b)

-- The tests of specs/Typing.antt pass exactly what the rules of specs/TypingRules.antt give: the types of heads first,
-- then terms and bindings for any match of types with a test that decides it, then bindings under the exact match.
use mathlib.Core.Path.{◌≡◌, sym, subst, subst₂}
use mathlib.Core.Bool.{Bool}
use mathlib.Core.List.{List, Memᴰ}
use lib.Dec.{T}
use Rattle.scheme.specs.Terms.{Head, con, nt, par, Term, node, Terms, []ᵗ, ◌∷ᵗ◌}
use Rattle.scheme.specs.Reduction.{Plan, body}
use Rattle.scheme.specs.Types.{Ty, state, arrow, same, domains, final}
use Rattle.scheme.specs.Typing.{Automaton, Binding, has, leads, head_types, holds}
use Rattle.scheme.specs.TypingRules.{HeadHas, of_binding, of_parameter, of_transition, HasType, by_head, LeadsTo, by_match, by_argument, HoldsBy, HoldsByRules}
use Rattle.scheme.specs.Acceptance.{holds_exactly}
use Rattle.scheme.proofs.Heads.{bound_out, bound_in, con_types_out, con_types_in}
use Rattle.scheme.proofs.Exact.{same→≡, ≡→same}
use Rattle.scheme.proofs.Substitution.{has_out, has_in, leads_argument, leads_rest, leads_in}

-- a head has exactly the types of its list
module _ (aut : Automaton) (env : List Binding) (given : List (List Ty)) where
  pub heads_rules : (h : Head) (τ : Ty) → Memᴰ τ (head_types aut env given h) → HeadHas aut env given h τ
  unfolding head_types
  heads_rules (con c) τ m = let (q, qs, l, e, eτ) = con_types_out aut.targets aut.states c m in subst (HeadHas aut env given (con c)) (sym eτ) (of_transition q c qs l e)
  heads_rules (nt f) τ m = let (b, k, ef, eτ) = bound_out env f m in subst₂ (λ g. HeadHas aut env given (nt g)) ef (sym eτ) (of_binding k)
  heads_rules (par i) τ m = of_parameter i m

  pub rules_heads : (h : Head) (τ : Ty) → HeadHas aut env given h τ → Memᴰ τ (head_types aut env given h)
  unfolding head_types
  rules_heads h τ (of_transition q c qs l e) = con_types_in aut.targets aut.states q c qs l e
  rules_heads h τ (of_binding k) = bound_in k
  rules_heads h τ (of_parameter i m) = m

-- `Matches` is what the test `serves` decides, and `Heads` what the lists `heads` hold
module _ (serves : Ty → Ty → Bool) (Matches : Ty → Ty → Type 0) (heads : Head → List Ty) (Heads : Head → Ty → Type 0) where
  module _ (serves-in : (a b : Ty) → Matches a b → T (serves a b)) (heads-in : (h : Head) (τ : Ty) → Heads h τ → Memᴰ τ (heads h)) where
    mutual
      unfolding leads

      -- a term that has the type by the rules passes the test
      pub rules_has : (t : Term) (τ : Ty) → HasType Matches Heads t τ → T (has serves heads t τ)
      rules_has (node h ts) τ (by_head {τ = σ} m l) = has_in serves heads (heads-in h σ m) ts τ (rules_leads ts σ τ l)

      pub rules_leads : (ts : Terms) (σ τ : Ty) → LeadsTo Matches Heads ts σ τ → T (leads serves heads ts σ τ)
      rules_leads []ᵗ σ τ (by_match m) = serves-in σ τ m
      rules_leads (t ∷ᵗ ts) σ τ (by_argument {a = a} {r = r} h l) = leads_in serves heads t ts a r τ (λ m k. rules_has t m (h m k)) (rules_leads ts r τ l)

  module _ (serves-out : (a b : Ty) → T (serves a b) → Matches a b) (heads-out : (h : Head) (τ : Ty) → Memᴰ τ (heads h) → Heads h τ) where
    mutual
      unfolding leads

      -- and one that passes has the type by the rules
      pub has_rules : (t : Term) (τ : Ty) → T (has serves heads t τ) → HasType Matches Heads t τ
      has_rules (node h ts) τ l =
          let (σ, m, k) = has_out serves heads h ts τ l in
          by_head (heads-out h σ m) (leads_rules ts σ τ k)

      pub leads_rules : (ts : Terms) (σ τ : Ty) → T (leads serves heads ts σ τ) → LeadsTo Matches Heads ts σ τ
      leads_rules []ᵗ σ τ l = by_match (serves-out σ τ l)
      leads_rules (t ∷ᵗ ts) (state q) τ l = absurd l
      leads_rules (t ∷ᵗ ts) (arrow a r) τ l =
          by_argument (λ m k. has_rules t m (leads_argument serves heads t ts a r τ l m k)) (leads_rules ts r τ (leads_rest serves heads t ts a r τ l))

-- a binding that passes holds by the rules, and one that holds by the rules passes
module _ (serves : Ty → Ty → Bool) (Matches : Ty → Ty → Type 0) (aut : Automaton) (plan : Plan) (env : List Binding) (b : Binding) where
  pub holds_rules : ((a b : Ty) → T (serves a b) → Matches a b) → T (holds serves aut plan env b) → HoldsBy Matches aut plan env b
  unfolding holds
  holds_rules out h =
      has_rules serves Matches (head_types aut env (domains b.type)) (HeadHas aut env (domains b.type)) out (heads_rules aut env (domains b.type))
      (body plan b.nonterminal) (final b.type) h

  pub rules_holds : ((a b : Ty) → Matches a b → T (serves a b)) → HoldsBy Matches aut plan env b → T (holds serves aut plan env b)
  unfolding holds
  rules_holds into h =
      rules_has serves Matches (head_types aut env (domains b.type)) (HeadHas aut env (domains b.type)) into (rules_heads aut env (domains b.type))
      (body plan b.nonterminal) (final b.type) h

-- the same under the exact match, where types that match are equal
module _ (aut : Automaton) (plan : Plan) (env : List Binding) (b : Binding) where
  pub exactly_rules : T (holds_exactly aut plan env b) → HoldsByRules aut plan env b
  unfolding holds_exactly
  exactly_rules = holds_rules same (λ a b. a ≡ b) aut plan env b same→≡

  pub rules_exactly : HoldsByRules aut plan env b → T (holds_exactly aut plan env b)
  unfolding holds_exactly
  rules_exactly = rules_holds same (λ a b. a ≡ b) aut plan env b ≡→same

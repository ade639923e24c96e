-- Why a term lacks a type: the search for the node that is the reason. Note 2 of the change requests.
use Rattle.std.specs.Prelude.{ℕ, suc, ◌+◌, Bool, not, List}
use Rattle.scheme.specs.Lists.{found, first_of, found_or}
use Rattle.scheme.specs.Terms.{Head, Term, node, Terms, []ᵗ, ◌∷ᵗ◌, countᵗ, nodes}
use Rattle.scheme.specs.Reduction.{Plan, body}
use Rattle.scheme.specs.Types.{Ty, state, arrow, members, domains, off, final}
use Rattle.scheme.specs.Typing.{Automaton, Binding, has, head_types}

-- "the node of its body in prefix order (from 0) and the type wanted there"
pub record Reason : Type 0 where
  pub place : ℕ
  pub wanted : Ty

-- "A type of a head leads to a goal when, one arrow off for each argument, it is the goal", whatever the arguments have; over what it
-- takes for a type to match a goal
unfoldable pub leads_to : (Ty → Ty → Bool) → ℕ → Ty → Ty → Bool
leads_to serves count goal τ = found (off count τ) (λ ρ. serves ρ goal)

-- The search, over what it takes for a type to match a goal (`serves`) and over the types of each head.
module _ (serves : Ty → Ty → Bool) (heads : Head → List Ty) where
  unfoldable mutual
    -- the search at a term whose head is node n: "If no type of the head leads to the goal, this node is the reason. Otherwise it takes the
    -- head's lowest-numbered leading type"; the types of a head stand in the order of their numbers
    pub reason : ℕ → Term → Ty → Reason
    reason n (node h ts) goal = found_or (first_of (leads_to serves (countᵗ ts) goal) (heads h)) (record { place = n; wanted = goal }) (λ τ. lacking (suc n) ts τ)

    -- "and goes to the first argument that lacks a member, at its first missing member": the arguments begin at node n, and a type of their
    -- head has come to τ; a search that began where a type is lacked meets neither of the first two
    pub lacking : ℕ → Terms → Ty → Reason
    lacking n []ᵗ τ = record { place = n; wanted = τ }
    lacking n (t ∷ᵗ ts) (state q) = record { place = n; wanted = state q }
    lacking n (t ∷ᵗ ts) (arrow a r) = let others = lacking (n + nodes t) ts r in found_or (first_of (λ m. not (has serves heads t m)) (members a)) others (λ m. reason n t m)

-- "The search starts at the body with its final state", under a set of bindings and the members given for the parameters
unfoldable pub reason_for : (Ty → Ty → Bool) → Automaton → Plan → List Binding → Binding → Reason
reason_for serves aut plan env b = reason serves (head_types aut env (domains b.type)) 0 (body plan b.nonterminal) (final b.type)

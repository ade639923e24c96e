-- What our own crates promise each other; nothing here has to be believed.
-- The search for the reason why a body lacks a goal. Note 2 of the change requests.
use Rattle.std.specs.Prelude.{ℕ, ◌<◌, ◌≡◌, List, Option, MatchOption}
use Rattle.scheme.specs.Terms.{Head, Term}
use Rattle.scheme.specs.Types.{Ty, same, domains}
use Rattle.scheme.specs.Typing.{head_types}
use Rattle.scheme.specs.Flags.{chosen}
use Rattle.scheme.specs.Reasons.{Reason, reason}
use Rattle.casefile.specs.Tables.{automaton_of, types_of, bindings_of}
use Rattle.casefile.specs.Explanations.{wanted_in, goal_number}
use Rattle.index.specs.layout.Layout.{max_nodes, entry_limit}
use Rattle.tables.specs.Facts.{Goal, At}
use Rattle.term_check.specs.Worlds.{Case, World, Has, Ready, Keeps}
use Rattle.reasons.specs.declared.Reason as Declared

-- the types of each head where the bindings with a flag are kept
abbrev pub heads_of : World → Head → List Ty
heads_of w = head_types (automaton_of w.rs) (chosen w.kept (bindings_of w.rs)) (domains w.τ)

-- the search at a term whose head is node n
abbrev pub reason_at : World → ℕ → Term → Ty → Reason
reason_at w = reason same (heads_of w)

-- the term at node i lacks goal g
pub record Lacks (w : World) (i g : ℕ) (u : Term) (σ : Ty) : Type 0 where
  pub here : At w.ns i u
  pub goal : Goal w.rs g σ
  pub lacked : Has w w.kept u σ → ⊥

-- a search comes to the same at node i for goal g
pub record ComesTo (w : World) (r : Reason) (i g : ℕ) : Type 0 where
  pub term : Term
  pub type : Ty
  pub lacks : Lacks w i g term type
  pub same_reason : r ≡ reason_at w i term type

-- one step of the search at node i for goal g: no type leads to the goal, or the search comes to a node behind, and a goal
pub record Steps (x : Case) (memo users : List ℕ) (i g : ℕ) (memo' users' : List ℕ) (r : Option Declared.Reason) : Type 0 where
  pub keeps : Keeps x memo users memo' users'
  pub stepped : (w : World) → Ready x w memo users → (u : Term) (σ : Ty) → Lacks w i g u σ → MatchOption r (reason_at w i u σ ≡ record { place = i; wanted = σ }) (λ next. (i < next.node) × ComesTo w (reason_at w i u σ) next.node next.goal)

-- node and goal are a reason, as numbers
pub record IsReason (w : World) (r : Reason) (node goal : ℕ) : Type 0 where
  pub is_node : r.place ≡ node
  pub is_goal : goal_number (wanted_in (types_of w.rs) r.wanted) ≡ goal
  pub node_small : node < max_nodes
  pub goal_small : goal < entry_limit

-- node and goal are the reason why the body lacks a goal
pub record Searches (x : Case) (memo users : List ℕ) (g : ℕ) (memo' users' : List ℕ) (node goal : ℕ) : Type 0 where
  pub keeps : Keeps x memo users memo' users'
  pub found : (w : World) → Ready x w memo users → (u : Term) (σ : Ty) → Lacks w 0 g u σ → IsReason w (reason_at w 0 u σ) node goal

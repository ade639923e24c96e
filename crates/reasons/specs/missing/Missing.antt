-- What our own crates promise each other; nothing here has to be believed.
-- The first argument that lacks a member, and its first missing member.
use Rattle.std.specs.Prelude.{ℕ, ◌≤◌, ◌≡◌, not, List, Option, MatchOption}
use Rattle.std.proofs.Math.Option as Found
use Rattle.std.proofs.Math.Option.{none, some}
use Rattle.scheme.specs.Lists.{first_of}
use Rattle.scheme.specs.Terms.{Term, Terms, countᵗ}
use Rattle.scheme.specs.Types.{Ty, arrow, Tys, members, same, takes, off}
use Rattle.scheme.specs.Typing.{has}
use Rattle.scheme.specs.Reasons.{lacking}
use Rattle.tables.specs.Facts.{Goal, At, AllAt}
use Rattle.term_check.specs.Worlds.{Args, Case, World, Has, Ready, Keeps, Targets}
use Rattle.reasons.specs.declared.Reason.{Reason}
use Rattle.reasons.specs.Searching.{heads_of, ComesTo}

-- the first member of some that a term lacks
abbrev pub first_lacked : World → Term → Tys → Found.Option Ty
first_lacked w u a = first_of (λ m. not (has same (heads_of w) u m)) (members a)

-- r is the first member of an arrow that the term at node i lacks, as a goal
pub record LacksMember (x : Case) (memo users : List ℕ) (i ty : ℕ) (memo' users' : List ℕ) (r : Option ℕ) : Type 0 where
  pub keeps : Keeps x memo users memo' users'
  pub lacks : (w : World) → Ready x w memo users → (a : Tys) (ρ : Ty) → Goal w.rs ty (arrow a ρ) → (u : Term) → At w.ns i u → MatchOption r (first_lacked w u a ≡ none) (λ g. (m : Ty) × Goal w.rs g m × (first_lacked w u a ≡ some m))

-- the arguments from a node on, of which one lacks what a type asks for
pub record ArgsLack (x : Case) (memo users : List ℕ) (first n ty : ℕ) (w : World) (ts : Terms) (τ σ : Ty) : Type 0 where
  pub ready : Ready x w memo users
  pub all : AllAt w.ns first ts
  pub count : countᵗ ts ≡ n
  pub goal : Goal w.rs ty τ
  pub rest : off n τ ≡ some σ
  pub lack : Args (Has w w.kept) ts τ → ⊥

-- the search among them comes to a node and a goal
pub record LacksArgument (x : Case) (memo users : List ℕ) (first n ty : ℕ) (memo' users' : List ℕ) (r : Option Reason) : Type 0 where
  pub keeps : Keeps x memo users memo' users'
  pub comes : (w : World) (ts : Terms) (τ σ : Ty) → ArgsLack x memo users first n ty w ts τ σ → MatchOption r ⊥ (λ next. (first ≤ next.node) × ComesTo w (lacking same (heads_of w) first ts τ) next.node next.goal)

-- the same for the arguments of a constructor, each with a target, four bits each
pub record TargetsLack (x : Case) (memo users : List ℕ) (first n targets : ℕ) (w : World) (ts : Terms) (qs : List ℕ) (q : ℕ) : Type 0 where
  pub ready : Ready x w memo users
  pub all : AllAt w.ns first ts
  pub count : countᵗ ts ≡ n
  pub are : Targets n targets qs
  pub lack : Args (Has w w.kept) ts (takes qs q) → ⊥

pub record LacksTarget (x : Case) (memo users : List ℕ) (first n targets : ℕ) (memo' users' : List ℕ) (r : Option Reason) : Type 0 where
  pub keeps : Keeps x memo users memo' users'
  pub comes : (w : World) (ts : Terms) (qs : List ℕ) (q : ℕ) → TargetsLack x memo users first n targets w ts qs q → MatchOption r ⊥ (λ next. (first ≤ next.node) × ComesTo w (lacking same (heads_of w) first ts (takes qs q)) next.node next.goal)

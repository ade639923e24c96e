-- The search, step by step: where it has come to, it comes to the same as from the body on; where it ends is the reason.
use Prim.Native.Nat.{ℕ, ◌<◌, ◌≤◌}
use native.Mathlib.Omega.{arith}
use native.Mathlib.Nat.{zero-add}
use mathlib.Core.Path.{◌≡◌, refl, sym, ap, ◌∙◌}
use mathlib.Core.List.{List, []}
use lib.ListN.{length}
use Rattle.std.specs.Prelude.{Option, Some, None, MatchOption, ⊤}
use Rattle.scheme.specs.Terms.{Term, node}
use Rattle.scheme.specs.Types.{Ty}
use Rattle.scheme.specs.Reasons.{Reason}
use Rattle.casefile.specs.Records.{Record}
use Rattle.casefile.specs.Kinds.{Kind, payloads, count}
use Rattle.casefile.specs.Tables.{type_from, types_of}
use Rattle.casefile.specs.Explanations.{wanted_in, goal_number}
use Rattle.casefile.proofs.Growth.{grow_length}
use Rattle.casefile.proofs.TypeTable.{count_payloads}
use Rattle.index.specs.layout.Layout.{max_nodes}
use Rattle.tables.specs.Facts.{At}
use Rattle.term_check.specs.Worlds.{Case, World, Setting, Ready, Keeps}
use Rattle.term_check.proofs.Goals.{goal_below}
use Rattle.term_check.proofs.check.Keeping.{keeps_all, keeps_on, ready_on}
use Rattle.reasons.specs.declared.Reason as Declared
use Rattle.reasons.specs.Searching.{reason_at, Lacks, ComesTo, Steps, IsReason, Searches}
use Rattle.reasons.proofs.Goals.{goal_printed}

-- a type for each record
types_long : (rs : List Record) → length (types_of rs) ≡ count Kind.type rs
unfolding types_of
types_long rs = grow_length type_from [] (payloads Kind.type rs) ∙ zero-add (length (payloads Kind.type rs)) ∙ sym (count_payloads Kind.type rs)

inside : {x : Case} {w : World} → Setting x w → (at : ℕ) (u : Term) → At w.ns at u → at < max_nodes
inside s at (node h ts) here = (s.nodes at h ts here).inside

module _ (x : Case) (memo users : List ℕ) (g : ℕ) where
  -- the search has come to a node and a goal
  pub record Come (memo' users' : List ℕ) (at wanted : ℕ) : Type 0 where
    pub keeps : Keeps x memo users memo' users'
    pub comes : (w : World) → Ready x w memo users → (u : Term) (σ : Ty) → Lacks w 0 g u σ → ComesTo w (reason_at w 0 u σ) at wanted

  module _ {memo' users' : List ℕ} {at wanted : ℕ} (k : Come memo' users' at wanted) where
    -- no body has that many nodes
    pub come_past : max_nodes ≤ at → Searches x memo users g memo' users' at wanted
    come_past h = record { keeps = k.keeps; found = λ w r u σ l. let c = k.comes w r u σ l in let i = inside r.setting at c.term c.lacks.here in absurd (omega arith) }

    -- it ends where there is no next one behind
    pub come_end : (memo'' users'' : List ℕ) (next : Option Declared.Reason) → Steps x memo' users' at wanted memo'' users'' next → MatchOption next ⊤ (λ n. n.node ≤ at) → Searches x memo users g memo'' users'' at wanted
    come_end memo'' users'' next step h =
        record {
          keeps = keeps_on k.keeps step.keeps;
          found = λ w r u σ l.
              let c = k.comes w r u σ l in
              by w r.setting (reason_at w 0 u σ) c next h (step.stepped w (ready_on k.keeps r) c.term c.type c.lacks);
        }
      where
        by : (w : World) → Setting x w → (r : Reason) (c : ComesTo w r at wanted) (next : Option Declared.Reason) → MatchOption next ⊤ (λ n. n.node ≤ at)
            → MatchOption next (reason_at w at c.term c.type ≡ record { place = at; wanted = c.type }) (λ n. (at < n.node) × ComesTo w (reason_at w at c.term c.type) n.node n.goal) → IsReason w r at wanted
        by w s r c (Some n) h (b, d) = absurd (omega arith)
        by w s r c None h f =
            let is = c.same_reason ∙ f in
            let below = goal_below s.types c.lacks.goal in
            record {
              is_node = ap (λ (z : Reason). z.place) is;
              is_goal = ap (λ (z : Reason). goal_number (wanted_in (types_of w.rs) z.wanted)) is ∙ goal_printed s.types (types_long w.rs) wanted c.type c.lacks.goal;
              node_small = inside s at c.term c.lacks.here;
              goal_small = omega arith;
            }

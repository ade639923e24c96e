-- The term at a node: no node, and a constructor in front.
use Prim.Native.Nat.{ℕ, suc, ◌≤◌}
use native.Mathlib.Omega.{arith}
use mathlib.Core.Path.{◌≡◌, refl, sym, ap, subst, ◌∙◌}
use mathlib.Core.Bool.{Bool, true, false, true≢false}
use mathlib.Core.List.{List}
use mathlib.Core.Option.{some}
use Rattle.std.specs.Prelude.{Some, None}
use Rattle.std.proofs.lemmas.Option.{none-some, same_Some}
use Rattle.scheme.specs.Terms.{con, Term, node, Terms}
use Rattle.scheme.specs.Types.{Ty, takes, off}
use Rattle.casefile.specs.Tables.{transitions_of, targets_at}
use Rattle.index.specs.layout.Layout.{max_nodes}
use Rattle.tables.specs.reading.Cells.{node_at}
use Rattle.tables.specs.declared.reading.Node.{Node}
use Rattle.tables.specs.Facts.{Goal, At, AllAt, head_by}
use Rattle.term_check.specs.notes.Notes.{base_in}
use Rattle.term_check.specs.heads.Heads.{IsTargets, Alone}
use Rattle.term_check.specs.Worlds.{Case, World, Has, Setting, Ready, Includes, Targets, ChecksTerm, ChecksTargets}
use Rattle.term_check.proofs.Rules.{built_has, built_had}
use Rattle.term_check.proofs.check.Keeping.{keeps_all}
use Rattle.term_check.proofs.check.Bound.{Split, split, split_term}

pub head_built : (tag number : ℕ) → tag ≡ 0 → head_by tag number ≡ con number
unfolding head_by
head_built tag number e = ap (λ k. head_by k number) e

module _ (x : Case) (memo users : List ℕ) (at goal : ℕ) where
  -- no body has that many nodes
  pub term_past : max_nodes ≤ at → ChecksTerm x memo users at goal memo users false
  term_past h = record { keeps = keeps_all x memo users; yes = λ y. absurd (true≢false (sym y)); no = λ y w r u here σ g has. past w r.setting u here }
    where
      past : (w : World) → Setting x w → (u : Term) → At w.ns at u → ⊥
      past w s (node k ts) here = let n = (s.nodes at k ts here).inside in omega arith

  module _ (a : Node) (ea : a ≡ node_at x.t (base_in x.test) at) (et : a.tag ≡ 0) where
    to_con : (u : Term) (ts : Terms) → u ≡ node (head_by a.tag a.number) ts → u ≡ node (con a.number) ts
    to_con u ts e = e ∙ ap (λ h. node h ts) (head_built a.tag a.number et)

    -- no transition leads to the goal
    pub no_targets : IsTargets x.t a.number a.count goal None → ChecksTerm x memo users at goal memo users false
    no_targets is = record { keeps = keeps_all x memo users; yes = λ y. absurd (true≢false (sym y)); no = λ y w rd u here σ g has. none w rd u σ g has (split_term x w rd.setting a at ea u here) }
      where
        none : (w : World) → Ready x w memo users → (u : Term) (σ : Ty) → Goal w.rs goal σ → Has w w.kept u σ → Split x w a at u → ⊥
        none w rd u σ g has (split ts eu al count few) =
            let (q, qs, there, o, args) = built_had w w.kept ts σ a.number (subst (λ z. Has w w.kept z σ) (to_con u ts eu) has) in
            let (found, e, are) = is.all x w refl rd.setting σ g q qs there (subst (λ k. off k (takes qs q) ≡ some σ) count o) in
            none-some found e

    -- the arguments decide
    pub built_checked : (targets : ℕ) → IsTargets x.t a.number a.count goal (Some targets) → (first : ℕ) → first ≡ suc at → (memo' users' : List ℕ) (b : Bool) → ChecksTargets x memo users first a.count targets memo' users' b → ChecksTerm x memo users at goal memo' users' b
    built_checked targets is first is-first memo' users' b told =
        record {
          keeps = told.keeps;
          yes = λ y w rd flags inc u here σ g. serves y w rd flags inc u σ g (split_term x w rd.setting a at ea u here);
          no = λ y w rd u here σ g has. none y w rd u σ g has (split_term x w rd.setting a at ea u here);
        }
      where
        targets_are : (w : World) → Setting x w → (σ : Ty) → Goal w.rs goal σ → (q : ℕ) (qs : List ℕ) → targets_at (transitions_of w.rs) q a.number ≡ some qs → off a.count (takes qs q) ≡ some σ → Targets a.count targets qs
        targets_are w s σ g q qs there o = let (found, e, are) = is.all x w refl s σ g q qs there o in subst (λ k. Targets a.count k qs) (sym (same_Some targets found e)) are

        serves : b ≡ true → (w : World) → Ready x w memo users → (flags : List ℕ) → Includes x w users' flags → (u : Term) (σ : Ty) → Goal w.rs goal σ → Split x w a at u → Has w flags u σ
        serves y w rd flags inc u σ g (split ts eu al count few) =
            let s = rd.setting in
            let (q, qs, there, o) = is.found targets refl x w refl s σ g in
            let are = targets_are w s σ g q qs there o in
            let eh = to_con u ts eu in
            let args = told.yes y w rd flags inc ts (subst (λ k. AllAt w.ns k ts) (sym is-first) al) count qs q are in
            subst (λ z. Has w flags z σ) (sym eh) (built_has w flags ts σ a.number q qs (s.automaton.within q a.number qs there).0 there (subst (λ k. off k (takes qs q) ≡ some σ) (sym count) o) args)

        none : b ≡ false → (w : World) → Ready x w memo users → (u : Term) (σ : Ty) → Goal w.rs goal σ → Has w w.kept u σ → Split x w a at u → ⊥
        none y w rd u σ g has (split ts eu al count few) =
            let (q, qs, there, o, args) = built_had w w.kept ts σ a.number (subst (λ z. Has w w.kept z σ) (to_con u ts eu) has) in
            let are = targets_are w rd.setting σ g q qs there (subst (λ k. off k (takes qs q) ≡ some σ) count o) in
            told.no y w rd ts (subst (λ k. AllAt w.ns k ts) (sym is-first) al) count qs q are args

-- a parameter that stands alone, and a state
module _ (x : Case) (memo users : List ℕ) (at goal : ℕ) (a : Node) (b : Bool) (known : Alone x a goal (Some b)) (ea : a ≡ node_at x.t (base_in x.test) at) (not-con : a.tag ≡ 0 → ⊥) (not-nt : a.tag ≡ 1 → ⊥) where
  pub alone_checked : ChecksTerm x memo users at goal memo users b
  alone_checked =
      record {
        keeps = keeps_all x memo users;
        yes = λ y w ready. known.yes (ap Some y) w users at ready.setting ea not-con not-nt;
        no = λ y w ready. known.no (ap Some y) w at ready.setting ea not-con not-nt;
      }

-- One step of the search: at a node none of whose types leads to the goal it ends; else it goes on in the arguments, one of which lacks
-- what the first type that leads to the goal asks for.
use Prim.Native.Nat.{ℕ, zero, suc, ◌<◌, ◌≤◌}
use native.Mathlib.Omega.{arith}
use mathlib.Core.Path.{◌≡◌, refl, sym, ap, subst, ◌∙◌}
use mathlib.Core.List.{List, Memᴰ}
use mathlib.Core.Option.{Option, none, some}
use Rattle.scheme.specs.Lists.{first_of, found_or}
use Rattle.scheme.specs.Terms.{Head, con, Term, node, Terms, countᵗ}
use Rattle.scheme.specs.Types.{Ty, state, arrow, same, takes, off, final}
use Rattle.scheme.specs.Typing.{head_types}
use Rattle.scheme.specs.Reasons.{Reason, leads_to, reason, lacking}
use Rattle.scheme.proofs.Lists.{T→true}
use Rattle.scheme.proofs.Heads.{con_types_out, con_types_in}
use Rattle.scheme.proofs.Reasons.{first_some, first_true}
use Rattle.scheme.proofs.Safety.{final_takes}
use Rattle.scheme.proofs.Substitution.{has_in}
use Rattle.casefile.specs.Tables.{automaton_of, state_count_spec, transitions_of, targets_at}
use Rattle.index.specs.layout.Layout.{max_nodes}
use Rattle.tables.specs.reading.Cells.{node_at}
use Rattle.tables.specs.declared.reading.Node.{Node}
use Rattle.tables.specs.Facts.{At, AllAt, head_by}
use Rattle.term_check.specs.notes.Notes.{base_in}
use Rattle.term_check.specs.heads.Heads.{IsTargets}
use Rattle.term_check.specs.Worlds.{Args, Case, World, Has, Setting, Ready, Targets}
use Rattle.term_check.proofs.Rules.{leads_back}
use Rattle.term_check.proofs.check.Keeping.{keeps_all}
use Rattle.term_check.proofs.check.Bound.{Split, split, split_term, symbol_known}
use Rattle.term_check.proofs.check.Terms.{head_built}
use Rattle.std.specs.Prelude as Prelude
use Rattle.std.specs.Prelude.{Some, None, MatchOption}
use Rattle.std.proofs.lemmas.Option.{none-some, same_Some}
use Rattle.reasons.specs.declared.Reason as Declared
use Rattle.reasons.specs.Searching.{heads_of, reason_at, Lacks, ComesTo, Steps}
use Rattle.reasons.specs.leading.Leading.{LeadsFirst}
use Rattle.reasons.specs.missing.Missing.{LacksArgument, LacksTarget}
use Rattle.reasons.proofs.Firsts.{first_only, first_nobody}
use Rattle.reasons.proofs.Goals.{off_leads, leads_off}

-- a type ends in the state in which it ends with arrows off
final_off : (n : ℕ) (τ σ : Ty) → off n τ ≡ some σ → final τ ≡ final σ
unfolding off final
final_off zero τ σ e = ap final (let i : τ ≡ σ = cc in i)
final_off (suc n) (state q) σ e = let z : ◌≡◌ {A = ℕ} 0 1 = cc in absurd (omega arith)
final_off (suc n) (arrow a r) σ e = final_off n r σ e

-- of a constructor one type leads to a goal at most: that for the state in which the goal ends
one_type : (targets : ℕ → ℕ → Option (List ℕ)) (c n : ℕ) (σ : Ty) (q : ℕ) (qs : List ℕ) → targets q c ≡ some qs → off n (takes qs q) ≡ some σ → (q' : ℕ) (qs' : List ℕ) → targets q' c ≡ some qs' → (υ : Ty) → υ ≡ takes qs' q' → off n υ ≡ some σ → υ ≡ takes qs q
one_type targets c n σ q qs there o q' qs' there' υ eυ o' =
    let f : state q' ≡ state q = sym (final_takes qs' q') ∙ final_off n (takes qs' q') σ (ap (off n) (sym eυ) ∙ o') ∙ sym (final_off n (takes qs q) σ o) ∙ final_takes qs q in
    let i : q' ≡ q = cc in
    let k : some qs' ≡ some qs = sym there' ∙ ap (λ z. targets z c) i ∙ there in
    let j : qs' ≡ qs = cc in
    eυ ∙ ap (λ z. takes z q') j ∙ ap (takes qs) i

-- what the first type that leads to a goal says of a search at a term
module _ (w : World) (n : ℕ) (h : Head) (ts : Terms) (σ : Ty) where
  reason_here : first_of (leads_to same (countᵗ ts) σ) (heads_of w h) ≡ none → reason_at w n (node h ts) σ ≡ record { place = n; wanted = σ }
  unfolding reason found_or
  reason_here e = ap (λ o. found_or o (record { place = n; wanted = σ }) (λ τ. lacking same (heads_of w) (suc n) ts τ)) e

  module _ (τ : Ty) (e : first_of (leads_to same (countᵗ ts) σ) (heads_of w h) ≡ some τ) where
    reason_below : reason_at w n (node h ts) σ ≡ lacking same (heads_of w) (suc n) ts τ
    unfolding reason found_or
    reason_below = ap (λ o. found_or o (record { place = n; wanted = σ }) (λ τ. lacking same (heads_of w) (suc n) ts τ)) e

    leads_there : (off (countᵗ ts) τ ≡ some σ) × Memᴰ τ (heads_of w h)
    leads_there = let (p, m) = first_true (first_some (leads_to same (countᵗ ts) σ) (heads_of w h) τ e) in (leads_off (countᵗ ts) σ τ (T→true _ p), m)

    args_lack : (Has w w.kept (node h ts) σ → ⊥) → Args (Has w w.kept) ts τ → ⊥
    args_lack lack args = let (o, m) = leads_there in lack (has_in same (heads_of w) {h = h} m ts σ (leads_back (heads_of w) ts τ σ o args))

-- where the arguments behind a node lack what is asked of them, the search comes to one of them
come_behind : (w : World) (r r' : Reason) (at from : ℕ) → from ≡ suc at → r ≡ r' → (P : Type 0) (next : Prelude.Option Declared.Reason) → MatchOption next ⊥ (λ n. (from ≤ n.node) × ComesTo w r' n.node n.goal)
    → MatchOption next P (λ n. (at < n.node) × ComesTo w r n.node n.goal)
come_behind w r r' at from e same_there P None nowhere = absurd nowhere
come_behind w r r' at from e same_there P (Some n) (behind, comes) = (omega arith, record { term = comes.term; type = comes.type; lacks = comes.lacks; same_reason = same_there ∙ comes.same_reason })

module _ (x : Case) (memo users : List ℕ) (at goal : ℕ) where
  -- no body has that many nodes
  pub step_past : max_nodes ≤ at → Steps x memo users at goal memo users None
  step_past h = record { keeps = keeps_all x memo users; stepped = λ w r u σ l. absurd (past w r.setting u l.here) }
    where
      past : (w : World) → Setting x w → (u : Term) → At w.ns at u → ⊥
      past w s (node k ts) here = let n = (s.nodes at k ts here).inside in omega arith

  module _ (a : Node) (ea : a ≡ node_at x.t (base_in x.test) at) where
    module _ (not-con : a.tag ≡ 0 → ⊥) where
      -- no type leads to the goal
      pub step_none : LeadsFirst x a goal None → Steps x memo users at goal memo users None
      step_none first = record { keeps = keeps_all x memo users; stepped = λ w r u σ l. by w r u σ l (split_term x w r.setting a at ea u l.here) }
        where
          by : (w : World) → Ready x w memo users → (u : Term) (σ : Ty) → Lacks w at goal u σ → Split x w a at u → reason_at w at u σ ≡ record { place = at; wanted = σ }
          by w r u σ l (split ts eu al count few) =
              let none_leads = first w r.setting σ l.goal (λ et. symbol_known x w r.setting a at ea et u l.here) few in
              ap (λ z. reason_at w at z σ) eu ∙ reason_here w at (head_by a.tag a.number) ts σ (ap (λ k. first_of (leads_to same k σ) (heads_of w (head_by a.tag a.number))) count ∙ none_leads)

      -- the arguments lack what the first type that does asks for
      module _ (ty : ℕ) (first : LeadsFirst x a goal (Some ty)) (from : ℕ) (is-from : from ≡ suc at) (memo' users' : List ℕ) (next : Prelude.Option Declared.Reason) (told : LacksArgument x memo users from a.count ty memo' users' next) where
        pub step_argument : Steps x memo users at goal memo' users' next
        step_argument = record { keeps = told.keeps; stepped = λ w r u σ l. by w r u σ l (split_term x w r.setting a at ea u l.here) }
          where
            by : (w : World) → Ready x w memo users → (u : Term) (σ : Ty) → Lacks w at goal u σ → Split x w a at u → MatchOption next (reason_at w at u σ ≡ record { place = at; wanted = σ }) (λ n. (at < n.node) × ComesTo w (reason_at w at u σ) n.node n.goal)
            by w r u σ l (split ts eu al count few) =
                let h = head_by a.tag a.number in
                let (τ, gτ, leads) = first w r.setting σ l.goal (λ et. symbol_known x w r.setting a at ea et u l.here) few in
                let e : first_of (leads_to same (countᵗ ts) σ) (heads_of w h) ≡ some τ = ap (λ k. first_of (leads_to same k σ) (heads_of w h)) count ∙ leads in
                let lack = args_lack w at h ts σ τ e (subst (λ z. Has w w.kept z σ → ⊥) eu l.lacked) in
                let o = (leads_there w at h ts σ τ e).0 in
                let comes = told.comes w ts τ σ (record { ready = r; all = subst (λ k. AllAt w.ns k ts) (sym is-from) al; count = count; goal = gτ; rest = subst (λ k. off k τ ≡ some σ) count o; lack = lack }) in
                let same_there : reason_at w at u σ ≡ lacking same (heads_of w) from ts τ = ap (λ z. reason_at w at z σ) eu ∙ reason_below w at h ts σ τ e ∙ ap (λ k. lacking same (heads_of w) k ts τ) (sym is-from) in
                come_behind w (reason_at w at u σ) (lacking same (heads_of w) from ts τ) at from is-from same_there _ next comes

    -- a constructor
    module _ (et : a.tag ≡ 0) where
      built : (w : World) → heads_of w (head_by a.tag a.number) ≡ heads_of w (con a.number)
      built w = ap (heads_of w) (head_built a.tag a.number et)

      pub step_no_targets : IsTargets x.t a.number a.count goal None → Steps x memo users at goal memo users None
      unfolding head_types automaton_of
      step_no_targets is = record { keeps = keeps_all x memo users; stepped = λ w rd u σ l. by w rd u σ l (split_term x w rd.setting a at ea u l.here) }
        where
          by : (w : World) → Ready x w memo users → (u : Term) (σ : Ty) → Lacks w at goal u σ → Split x w a at u → reason_at w at u σ ≡ record { place = at; wanted = σ }
          by w rd u σ l (split ts eu al count few) =
              ap (λ z. reason_at w at z σ) eu
              ∙ reason_here w at (head_by a.tag a.number) ts σ
              (ap (first_of (leads_to same (countᵗ ts) σ)) (built w)
              ∙ first_nobody (leads_to same (countᵗ ts) σ) (heads_of w (con a.number)) (λ υ m p.
              let (q, qs, h, there, eυ) = con_types_out (targets_at (transitions_of w.rs)) (state_count_spec w.rs) a.number m in
              let o : off a.count (takes qs q) ≡ some σ = ap (λ k. off k (takes qs q)) (sym count) ∙ ap (off (countᵗ ts)) (sym eυ) ∙ leads_off (countᵗ ts) σ υ p in
              let (found, e, are) = is.all x w refl rd.setting σ l.goal q qs there o in
              none-some found e))

      module _ (targets : ℕ) (is : IsTargets x.t a.number a.count goal (Some targets)) (from : ℕ) (is-from : from ≡ suc at) (memo' users' : List ℕ) (next : Prelude.Option Declared.Reason) (told : LacksTarget x memo users from a.count targets memo' users' next) where
        pub step_target : Steps x memo users at goal memo' users' next
        unfolding head_types automaton_of
        step_target = record { keeps = told.keeps; stepped = λ w rd u σ l. by w rd u σ l (split_term x w rd.setting a at ea u l.here) }
          where
            by : (w : World) → Ready x w memo users → (u : Term) (σ : Ty) → Lacks w at goal u σ → Split x w a at u → MatchOption next (reason_at w at u σ ≡ record { place = at; wanted = σ }) (λ n. (at < n.node) × ComesTo w (reason_at w at u σ) n.node n.goal)
            by w rd u σ l (split ts eu al count few) =
                let h = head_by a.tag a.number in
                let (q, qs, there, o) = is.found targets refl x w refl rd.setting σ l.goal in
                let (found, ef, are) = is.all x w refl rd.setting σ l.goal q qs there o in
                let o' : off (countᵗ ts) (takes qs q) ≡ some σ = ap (λ k. off k (takes qs q)) count ∙ o in
                let e : first_of (leads_to same (countᵗ ts) σ) (heads_of w h) ≡ some (takes qs q) =
                ap (first_of (leads_to same (countᵗ ts) σ)) (built w)
                ∙ first_only (leads_to same (countᵗ ts) σ) (heads_of w (con a.number)) (takes qs q)
                (con_types_in (targets_at (transitions_of w.rs)) (state_count_spec w.rs) q a.number qs (rd.setting.automaton.within q a.number qs there).0 there)
                (off_leads (countᵗ ts) σ (takes qs q) o')
                (λ υ m p.
                let (q', qs', k, there', eυ) = con_types_out (targets_at (transitions_of w.rs)) (state_count_spec w.rs) a.number m in
                one_type (targets_at (transitions_of w.rs)) a.number (countᵗ ts) σ q qs there o' q' qs' there' υ eυ (leads_off (countᵗ ts) σ υ p)) in
                let lack = args_lack w at h ts σ (takes qs q) e (subst (λ z. Has w w.kept z σ → ⊥) eu l.lacked) in
                let comes = told.comes w ts qs q (record { ready = rd; all = subst (λ k. AllAt w.ns k ts) (sym is-from) al; count = count; are = subst (λ k. Targets a.count k qs) (sym (same_Some targets found ef)) are; lack = lack }) in
                let same_there : reason_at w at u σ ≡ lacking same (heads_of w) from ts (takes qs q) = ap (λ z. reason_at w at z σ) eu ∙ reason_below w at h ts σ (takes qs q) e ∙ ap (λ k. lacking same (heads_of w) k ts (takes qs q)) (sym is-from) in
                come_behind w (reason_at w at u σ) (lacking same (heads_of w) from ts (takes qs q)) at from is-from same_there _ next comes

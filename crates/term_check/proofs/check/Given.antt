-- A parameter in front: the members given for it are tried.
use Prim.Native.Nat.{ℕ, suc, ◌<◌, ◌≤◌}
use native.Mathlib.Omega.{arith}
use native.Mathlib.Decide.{dec_lt}
use mathlib.Core.Path.{◌≡◌, refl, sym, ap, subst, ◌∙◌}
use mathlib.Core.Bool.{Bool, true, false, true≢false}
use mathlib.Core.List.{List}
use mathlib.Core.Option.{some}
use lib.ListN.{length, get_or}
use Rattle.scheme.specs.Terms.{par, Term, node, Terms, countᵗ}
use Rattle.scheme.specs.Types.{Ty, state, arrow, Tys, members, off}
use Rattle.casefile.proofs.Repeats.{get_d_mem}
use Rattle.index.specs.layout.Layout.{no_number}
use Rattle.tables.specs.reading.Cells.{many_of_spec, member_of_spec, off_of, node_at}
use Rattle.tables.specs.declared.reading.Node.{Node}
use Rattle.tables.specs.Facts.{Goal, of_state_law, of_arrow, AllAt, head_by}
use Rattle.term_check.specs.notes.Notes.{own_in_spec, base_in}
use Rattle.term_check.specs.Worlds.{Args, Case, World, Has, Setting, Ready, Includes, Keeps, ChecksTerm, ChecksArgs}
use Rattle.term_check.proofs.Goals.{goal_there, off_goal, off_is, off_some, off_number}
use Rattle.term_check.proofs.Rules.{given_has, given_had}
use Rattle.term_check.proofs.Places.{head_given}
use Rattle.term_check.proofs.check.Keeping.{keeps_all, keeps_on, ready_on}
use Rattle.term_check.proofs.check.Members.{mem_index}
use Rattle.term_check.proofs.check.Bound.{Split, split, split_term}

-- a goal that has members is an arrow
pub data IsArrow (w : World) (t : List ℕ) (g j : ℕ) (υ : Ty) : Type 0 where
  is_arrow : (a : Tys) (r : Ty) → υ ≡ arrow a r → Goal w.rs g (arrow a r) → j < length (members a) → Goal w.rs (member_of_spec t g j) (get_or (members a) j (state 0)) → IsArrow w t g j υ

module _ (x : Case) (memo users : List ℕ) (at goal : ℕ) (a : Node) (given : ℕ) where
  -- member j of what is given does not serve
  abbrev Fails : World → ℕ → Type 0
  Fails w j =
      (b : Tys) (r σ : Ty) → Goal w.rs given (arrow b r) → j < length (members b) → Goal w.rs goal σ → (ts : Terms) → AllAt w.ns (suc at) ts → countᵗ ts ≡ a.count → off a.count (get_or (members b) j (state 0)) ≡ some σ
      → Args (Has w w.kept) ts (get_or (members b) j (state 0)) → ⊥

  pub record Tried (memo' users' : List ℕ) (j : ℕ) : Type 0 where
    pub keeps : Keeps x memo users memo' users'
    pub fails : (w : World) → Ready x w memo users → (k : ℕ) → k < j → Fails w k

  pub tried_on : {memo' users' memo'' users'' : List ℕ} {j : ℕ} → Keeps x memo' users' memo'' users'' → Tried memo' users' j → Tried memo'' users'' j
  tried_on k t = record { keeps = keeps_on t.keeps k; fails = t.fails }

  module _ {memo' users' : List ℕ} {j : ℕ} (t : Tried memo' users' j) where
    module _ (ty : ℕ) (is-ty : ty ≡ member_of_spec x.t given j) (j' : ℕ) (ej : j' ≡ suc j) where
      more : (memo'' users'' : List ℕ) → Keeps x memo users memo'' users'' → ((w : World) → Ready x w memo users → Fails w j) → Tried memo'' users'' j'
      more memo'' users'' k f = record { keeps = k; fails = λ w r i h. by w r i h (dec_lt i j) }
        where
          by : (w : World) → Ready x w memo users → (i : ℕ) → i < j' → Dec (i < j) → Fails w i
          by w r i h (yes k) = t.fails w r i k
          by w r i h (no k) = let e : i ≡ j = omega arith in subst (Fails w) (sym e) (f w r)

      -- the member's goal
      member_goal : (w : World) → Setting x w → (b : Tys) (r : Ty) → Goal w.rs given (arrow b r) → j < length (members b) → Goal w.rs ty (get_or (members b) j (state 0))
      member_goal w s b r g h = subst (λ k. Goal w.rs k (get_or (members b) j (state 0))) (sym is-ty) ((s.types.arrow_row given b r g).member j h)

      module _ (rest : ℕ) (is-rest : rest ≡ off_of x.t a.count ty) where
        pub member_misses : (rest ≡ goal → ⊥) → Tried memo' users' j'
        member_misses other =
            more memo' users' t.keeps (λ w r b s σ gb h g ts al count o args.
            other (is-rest ∙ off_number r.setting.types a.count ty goal (get_or (members b) j (state 0)) σ (member_goal w r.setting b s gb h) g o))

        module _ (leads : rest ≡ goal) (first : ℕ) (is-first : first ≡ suc at) (memo'' users'' : List ℕ) (d : Bool) (told : ChecksArgs x memo' users' first a.count ty memo'' users'' d) where
          pub member_fails : d ≡ false → Tried memo'' users'' j'
          member_fails e =
              more memo'' users'' (keeps_on t.keeps told.keeps) (λ w r b s σ gb h g ts al count o args.
              told.no e w (ready_on t.keeps r) ts (subst (λ k. AllAt w.ns k ts) (sym is-first) al) count (get_or (members b) j (state 0)) σ (member_goal w r.setting b s gb h) o args)

  module _ (is-given : given ≡ off_of x.t a.number (own_in_spec x.test)) (ea : a ≡ node_at x.t (base_in x.test) at) (not-con : a.tag ≡ 0 → ⊥) (not-nt : a.tag ≡ 1 → ⊥) where
    to_par : (u : Term) (ts : Terms) → u ≡ node (head_by a.tag a.number) ts → u ≡ node (par a.number) ts
    to_par u ts e = e ∙ ap (λ h. node h ts) (head_given a.tag a.number not-con not-nt)

    -- nothing is given
    pub given_none : given ≡ no_number → ChecksTerm x memo users at goal memo users false
    given_none e =
        record {
          keeps = keeps_all x memo users;
          yes = λ y. absurd (true≢false (sym y));
          no = λ y w r u here σ g has. none w r u σ has (split_term x w r.setting a at ea u here);
        }
      where
        none : (w : World) → Ready x w memo users → (u : Term) (σ : Ty) → Has w w.kept u σ → Split x w a at u → ⊥
        none w r u σ has (split ts eu al count few) =
            let (b, s, υ, o, m, rest, args) = given_had w w.kept ts σ a.number (subst (λ z. Has w w.kept z σ) (to_par u ts eu) has) in
            let s₁ = r.setting in
            goal_there s₁.types (off_goal s₁.types a.number (own_in_spec x.test) w.τ (arrow b s) s₁.own o) (sym is-given ∙ e)

    module _ {memo' users' : List ℕ} {j : ℕ} (t : Tried memo' users' j) (many : ℕ) (is-many : many ≡ many_of_spec x.t given) where
      -- none of the members serves
      pub given_end : many ≤ j → ChecksTerm x memo users at goal memo' users' false
      given_end h =
          record {
            keeps = t.keeps;
            yes = λ y. absurd (true≢false (sym y));
            no = λ y w r u here σ g has. none w r u σ g has (split_term x w r.setting a at ea u here);
          }
        where
          none : (w : World) → Ready x w memo users → (u : Term) (σ : Ty) → Goal w.rs goal σ → Has w w.kept u σ → Split x w a at u → ⊥
          none w r u σ g has (split ts eu al count few) =
              let (b, s, υ, o, m, rest, args) = given_had w w.kept ts σ a.number (subst (λ z. Has w w.kept z σ) (to_par u ts eu) has) in
              let s₁ = r.setting in
              let gb : Goal w.rs given (arrow b s) = subst (λ k. Goal w.rs k (arrow b s)) (sym is-given) (off_goal s₁.types a.number (own_in_spec x.test) w.τ (arrow b s) s₁.own o) in
              let n = (s₁.types.arrow_row given b s gb).many in
              let (k, l, e) = mem_index (state 0) (members b) υ m in
              t.fails w r k (omega arith) b s σ gb l g ts al count (subst (λ z. off z (get_or (members b) k (state 0)) ≡ some σ) count (subst (λ z. off (countᵗ ts) z ≡ some σ) (sym e) rest)) (subst (Args (Has w w.kept) ts) (sym e) args)

    -- a member that serves
    module _ (j many : ℕ) (is-many : many ≡ many_of_spec x.t given) (l : j < many) (ne : given ≡ no_number → ⊥) (ty : ℕ) (is-ty : ty ≡ member_of_spec x.t given j) (rest : ℕ) (is-rest : rest ≡ off_of x.t a.count ty) (leads : rest ≡ goal) (first : ℕ) (is-first : first ≡ suc at) (memo'' users'' : List ℕ) (d : Bool) (told : ChecksArgs x memo users first a.count ty memo'' users'' d) where
      pub member_has : d ≡ true → ChecksTerm x memo users at goal memo'' users'' true
      member_has e =
          record {
            keeps = told.keeps;
            yes = λ y w r flags inc u here σ g. serves w r flags inc u σ g (split_term x w r.setting a at ea u here);
            no = λ y. absurd (true≢false y);
          }
        where
          arrow_here : (w : World) → Setting x w → (υ : Ty) → Goal w.rs given υ → IsArrow w x.t given j υ
          arrow_here w s υ (of_state_law q h eg eυ) =
              let row = s.types.state_row q h in
              let z : many_of_spec x.t given ≡ 0 = ap (many_of_spec x.t) eg ∙ row.no_members in
              absurd (omega arith)
          arrow_here w s υ (of_arrow m b r h eg et eυ) =
              let gb : Goal w.rs given (arrow b r) = of_arrow m b r h eg et refl in
              let row = s.types.arrow_row given b r gb in
              let n = row.many in
              is_arrow b r eυ gb (omega arith) (row.member j (omega arith))

          serves : (w : World) → Ready x w memo users → (flags : List ℕ) → Includes x w users'' flags → (u : Term) (σ : Ty) → Goal w.rs goal σ → Split x w a at u → Has w flags u σ
          serves w r flags inc u σ g (split ts eu al count few) =
              let s = r.setting in
              let (υ, o, gυ) = off_some s.types a.number (own_in_spec x.test) w.τ s.own (λ k. ne (is-given ∙ k)) in
              by υ o (arrow_here w s υ (subst (λ k. Goal w.rs k υ) (sym is-given) gυ))
            where
              by : (υ : Ty) → off a.number w.τ ≡ some υ → IsArrow w x.t given j υ → Has w flags u σ
              by υ o (is_arrow b ρ eυ gb h gm) =
                  let m = get_or (members b) j (state 0) in
                  let gm' : Goal w.rs ty m = subst (λ k. Goal w.rs k m) (sym is-ty) gm in
                  let o' : off a.count m ≡ some σ = off_is r.setting.types a.count ty goal m σ gm' g (sym is-rest ∙ leads) in
                  let args = told.yes e w r flags inc ts (subst (λ k. AllAt w.ns k ts) (sym is-first) al) count m σ gm' o' in
                  subst (λ z. Has w flags z σ) (sym (to_par u ts eu)) (given_has w flags ts σ a.number b ρ m (o ∙ ap some eυ) (get_d_mem (members b) j (state 0) h) (subst (λ z. off z m ≡ some σ) (sym count) o') args)

-- The first member given for a parameter that leads to a goal: those before it do not.
use Prim.Native.Nat.{ℕ, suc, ◌<◌, ◌≤◌}
use native.Mathlib.Omega.{arith}
use native.Mathlib.Decide.{dec_lt}
use mathlib.Core.Path.{◌≡◌, refl, sym, ap, subst, ◌∙◌}
use mathlib.Core.Option.{some}
use lib.ListN.{length, get_or}
use Rattle.std.specs.Prelude.{Some, None}
use Rattle.scheme.specs.Lists.{first_of}
use Rattle.scheme.specs.Terms.{par}
use Rattle.scheme.specs.Types.{Ty, state, arrow, Tys, members, same, domains, off}
use Rattle.scheme.specs.Typing.{head_types}
use Rattle.scheme.specs.Reasons.{leads_to}
use Rattle.scheme.proofs.Reasons.{first_some_at}
use Rattle.index.specs.layout.Layout.{no_number}
use Rattle.tables.specs.reading.Cells.{many_of_spec, member_of_spec, off_of}
use Rattle.tables.specs.declared.reading.Node.{Node}
use Rattle.tables.specs.Facts.{Goal, of_state_law, of_arrow, head_by}
use Rattle.term_check.specs.notes.Notes.{own_in_spec}
use Rattle.term_check.specs.Worlds.{Case, World, Setting}
use Rattle.term_check.proofs.Goals.{goal_there, off_goal, off_is, off_some, off_number}
use Rattle.term_check.proofs.Rules.{domains_at, domains_out}
use Rattle.term_check.proofs.Places.{head_given}
use Rattle.term_check.proofs.check.Members.{mem_index}
use Rattle.reasons.specs.Searching.{heads_of}
use Rattle.reasons.specs.leading.Leading.{LeadsFirst}
use Rattle.reasons.proofs.Firsts.{first_nobody}
use Rattle.reasons.proofs.Goals.{off_leads, leads_off, leads_not}

-- a goal that has members is an arrow
data HasMembers (w : World) (g j : ℕ) (υ : Ty) : Type 0 where
  has_members : (a : Tys) (r : Ty) → υ ≡ arrow a r → Goal w.rs g (arrow a r) → j < length (members a) → HasMembers w g j υ

members_there : (x : Case) (w : World) → Setting x w → (g j : ℕ) (υ : Ty) → Goal w.rs g υ → j < many_of_spec x.t g → HasMembers w g j υ
members_there x w s g j υ (of_state_law q h eg eυ) l =
    let row = s.types.state_row q h in
    let z : many_of_spec x.t g ≡ 0 = ap (many_of_spec x.t) eg ∙ row.no_members in
    absurd (omega arith)
members_there x w s g j υ (of_arrow m b r h eg et eυ) l =
    let gb : Goal w.rs g (arrow b r) = of_arrow m b r h eg et refl in
    let n = (s.types.arrow_row g b r gb).many in
    has_members b r eυ gb (omega arith)

module _ (x : Case) (a : Node) (goal given : ℕ) where
  -- member k of what is given does not lead to the goal
  abbrev Misses : ℕ → Type 0
  Misses k = (w : World) → Setting x w → (b : Tys) (r σ : Ty) → Goal w.rs given (arrow b r) → k < length (members b) → Goal w.rs goal σ → off a.count (get_or (members b) k (state 0)) ≡ some σ → ⊥

  pub record Tried (j : ℕ) : Type 0 where
    pub misses : (k : ℕ) → k < j → Misses k

  module _ (j ty : ℕ) (is-ty : ty ≡ member_of_spec x.t given j) where
    member_goal : (w : World) → Setting x w → (b : Tys) (r : Ty) → Goal w.rs given (arrow b r) → j < length (members b) → Goal w.rs ty (get_or (members b) j (state 0))
    member_goal w s b r g h = subst (λ k. Goal w.rs k (get_or (members b) j (state 0))) (sym is-ty) ((s.types.arrow_row given b r g).member j h)

    -- member j does not lead to the goal
    pub given_more : Tried j → (rest : ℕ) → rest ≡ off_of x.t a.count ty → (rest ≡ goal → ⊥) → (j' : ℕ) → j' ≡ suc j → Tried j'
    given_more t rest is-rest d j' ej = record { misses = λ k h. by k h (dec_lt k j) }
      where
        by : (k : ℕ) → k < j' → Dec (k < j) → Misses k
        by k h (yes i) = t.misses k i
        by k h (no i) =
            let e : j ≡ k = omega arith in
            subst Misses e (λ w s b r σ gb inside g o. d (is-rest ∙ off_number s.types a.count ty goal (get_or (members b) j (state 0)) σ (member_goal w s b r gb inside) g o))

  module _ (is-given : given ≡ off_of x.t a.number (own_in_spec x.test)) (not-con : a.tag ≡ 0 → ⊥) (not-nt : a.tag ≡ 1 → ⊥) where
    head_is : (w : World) → heads_of w (head_by a.tag a.number) ≡ heads_of w (par a.number)
    head_is w = ap (heads_of w) (head_given a.tag a.number not-con not-nt)

    -- what is given is an arrow's members
    given_goal : (w : World) → Setting x w → (b : Tys) (r : Ty) → off a.number w.τ ≡ some (arrow b r) → Goal w.rs given (arrow b r)
    given_goal w s b r o = subst (λ k. Goal w.rs k (arrow b r)) (sym is-given) (off_goal s.types a.number (own_in_spec x.test) w.τ (arrow b r) s.own o)

    -- nothing is given
    pub given_nothing : given ≡ no_number → LeadsFirst x a goal None
    unfolding head_types
    given_nothing z w s σ g known few =
        ap (first_of (leads_to same a.count σ)) (head_is w)
        ∙ first_nobody (leads_to same a.count σ) (get_or (domains w.τ) a.number _) (λ υ m l.
        let (b, r, o, k) = domains_out a.number w.τ υ m in
        goal_there s.types (given_goal w s b r o) z)

    module _ {j : ℕ} (t : Tried j) (many : ℕ) (is-many : many ≡ many_of_spec x.t given) where
      -- no member is left
      pub given_none : many ≤ j → LeadsFirst x a goal None
      unfolding head_types
      given_none h w s σ g known few =
          ap (first_of (leads_to same a.count σ)) (head_is w)
          ∙ first_nobody (leads_to same a.count σ) (get_or (domains w.τ) a.number _) (λ υ m l.
          let (b, r, o, mem) = domains_out a.number w.τ υ m in
          let gb = given_goal w s b r o in
          let n = (s.types.arrow_row given b r gb).many in
          let (k, inside, ek) = mem_index (state 0) (members b) υ mem in
          t.misses k (omega arith) w s b r σ gb inside g (ap (off a.count) ek ∙ leads_off a.count σ υ l))

      module _ (l : j < many) (there : given ≡ no_number → ⊥) (ty : ℕ) (is-ty : ty ≡ member_of_spec x.t given j) (rest : ℕ) (is-rest : rest ≡ off_of x.t a.count ty) where
        -- it leads to it
        pub given_first : rest ≡ goal → LeadsFirst x a goal (Some ty)
        unfolding head_types
        given_first e w s σ g known few =
            let (υ, o, gυ) = off_some s.types a.number (own_in_spec x.test) w.τ s.own (λ k. there (is-given ∙ k)) in
            first_by w s σ g υ o (members_there x w s given j υ (subst (λ k. Goal w.rs k υ) (sym is-given) gυ) (let m = is-many in omega arith))
          where
            first_by : (w : World) → Setting x w → (σ : Ty) → Goal w.rs goal σ → (υ : Ty) → off a.number w.τ ≡ some υ → HasMembers w given j υ
                → (τ : Ty) × Goal w.rs ty τ × (first_of (leads_to same a.count σ) (heads_of w (head_by a.tag a.number)) ≡ some τ)
            first_by w s σ g υ o (has_members b r eυ gb inside) =
                let m = get_or (members b) j (state 0) in
                let gm = member_goal j ty is-ty w s b r gb inside in
                let listed : heads_of w (head_by a.tag a.number) ≡ members b = head_is w ∙ domains_at a.number w.τ b r (o ∙ ap some eυ) in (
                  m,
                  gm,
                  ap (first_of (leads_to same a.count σ)) listed
                      ∙ first_some_at (leads_to same a.count σ) (members b) (state 0) j inside
                      (λ k h. leads_not a.count σ (get_or (members b) k (state 0)) (λ p. t.misses k h w s b r σ gb (omega arith) g p))
                      (off_leads a.count σ m (off_is s.types a.count ty goal m σ gm g (sym is-rest ∙ e))),
                )

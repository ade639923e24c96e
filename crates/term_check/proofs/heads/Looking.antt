-- What is known of a node: what is remembered, or all of a parameter that stands alone.
use Prim.Native.Nat.{ℕ, ◌*◌, ◌-◌, ◌/◌, ◌%◌, ◌<◌, ◌≤◌}
use native.Mathlib.Omega.{arith}
use mathlib.Core.Path.{◌≡◌, refl, sym, ap, subst, ◌∙◌}
use mathlib.Core.Logic.{◌⊎◌, inl, inr}
use mathlib.Core.Bool.{Bool, true, false, true≢false}
use mathlib.Core.List.{List, [], Memᴰ}
use mathlib.Core.Option.{some}
use borrow.Author.Tests.{eqb-true, eqb-false}
use lib.Bits.{bit_and, and_comm, and_mask}
use lib.Dec.{eqb}
use lib.ListN.{length}
use Rattle.std.specs.Prelude.{Some}
use Rattle.std.proofs.lemmas.Option.{same_Some}
use Rattle.scheme.specs.Terms.{par, Term, node, []ᵗ, countᵗ}
use Rattle.scheme.specs.Types.{Ty, state, arrow, Tys, members, off}
use Rattle.index.specs.layout.Layout.{max_states, no_number}
use Rattle.marks.specs.Marks.{bit_of}
use Rattle.marks.proofs.Bits.{bit_small, zero_bit, minus_bit}
use Rattle.answers.specs.declared.Outlook.{Outlook}
use Rattle.answers.specs.Answers.{Says, Looks}
use Rattle.tables.specs.declared.reading.Node.{Node}
use Rattle.tables.specs.reading.Cells.{states_of_spec, member_of_spec, near_of_spec, mask_of, off_of, node_at}
use Rattle.tables.specs.Facts.{Goal, of_state_law, At, head_by}
use Rattle.term_check.specs.notes.Notes.{own_in_spec, base_in, stamp_in, wide_in}
use Rattle.term_check.specs.Worlds.{Args, Case, World, Setting, Has, Ready, Yes}
use Rattle.term_check.specs.heads.Heads.{Alone, Seen, AllHad}
use Rattle.term_check.specs.masks.Masks.{Leaves}
use Rattle.term_check.proofs.Goals.{goal_type, state_below, off_some}
use Rattle.term_check.proofs.Places.{no_terms, head_given}
use Rattle.term_check.proofs.Rules.{given_has, given_had}

-- a bit of all 16 less some is none of these
all_bit : (q all n : ℕ) → n < 65536 → all ≡ 65535 → bit_of q (all - n) ≡ 1 → bit_of q n ≡ 1 → ⊥
all_bit q all n h e l o =
    let both : bit_and all n ≡ n = and_comm all n ∙ ap (bit_and n) e ∙ and_mask n 16 ∙ (let i : n % 65536 ≡ n = omega arith in i) in
    let x = minus_bit q all n in
    let y = ap (λ m. bit_of q (all - m)) both in
    let k = bit_small q all in
    omega arith

module _ (x : Case) (memo : List ℕ) (i : ℕ) (r : Outlook) where
  pub seen_memo : (wide stamp : ℕ) → wide ≡ wide_in x.test → stamp ≡ stamp_in x.test → Looks memo wide stamp i 0 r → Seen x memo i r
  seen_memo wide stamp ew es l =
      record {
        yes = λ w users ready q h b. ready.right.yes i q (says q true (l.yes q (omega arith) (at_bit q h r.had b)));
        no = λ w users ready q h b. ready.right.no i q (says q false (l.no q (omega arith) (at_bit q h r.lacked b)));
      }
    where
      at_bit : (q : ℕ) → q < max_states → (n : ℕ) → bit_of q n ≡ 1 → bit_of (q % 32) n ≡ 1
      at_bit q h n b = subst (λ k. bit_of k n ≡ 1) (let e : q ≡ q % 32 = omega arith in e) b

      says : (q : ℕ) (b : Bool) → Says memo wide stamp i q b → Says memo (wide_in x.test) (stamp_in x.test) i q b
      says q b s = subst (λ v. Says memo v (stamp_in x.test) i q b) ew (subst (λ v. Says memo wide v i q b) es s)

  -- a parameter alone
  module _ (own given had : ℕ) (nd : Node) (f : nd ≡ node_at x.t (base_in x.test) i) (not-con : nd.tag ≡ 0 → ⊥) (not-nt : nd.tag ≡ 1 → ⊥) (none : nd.count ≡ 0) (eo : own ≡ own_in_spec x.test) (eg : given ≡ off_of x.t nd.number own) (there : given ≡ no_number → ⊥) (big : max_states ≤ given) (eh : had ≡ states_of_spec x.t given) where
    given_is : given ≡ off_of x.t nd.number (own_in_spec x.test)
    given_is = eg ∙ ap (off_of x.t nd.number) eo

    module _ (w : World) (s : Setting x w) where
      -- its term
      alone : (u : Term) → At w.ns i u → u ≡ node (par nd.number) []ᵗ
      alone (node h ts) a =
          let is = s.nodes i h ts a in
          let no-args = sym is.arguments ∙ ap (λ (z : Node). z.count) (sym f) ∙ none in
          let head = sym is.head ∙ ap (λ (z : Node). head_by z.tag z.number) (sym f) ∙ head_given nd.tag nd.number not-con not-nt in
          ap (λ z. node z ts) head ∙ ap (node (par nd.number)) (no_terms ts no-args)

      -- its members
      arrow_of : (a : Tys) × (b : Ty) × (off nd.number w.τ ≡ some (arrow a b)) × Goal w.rs given (arrow a b)
      arrow_of = go (off_some s.types nd.number (own_in_spec x.test) w.τ s.own (λ z. there (given_is ∙ z)))
        where
          go : (σ : Ty) × (off nd.number w.τ ≡ some σ) × Goal w.rs (off_of x.t nd.number (own_in_spec x.test)) σ → (a : Tys) × (b : Ty) × (off nd.number w.τ ≡ some (arrow a b)) × Goal w.rs given (arrow a b)
          go (state q, o, g) = let (j, h) = state_below q g in let k = given_is in absurd (omega arith)
          go (arrow a b, o, g) = (a, b, o, subst (λ j. Goal w.rs j (arrow a b)) (sym given_is) g)

      is_state : (q : ℕ) (σ : Ty) → q < max_states → Goal w.rs q σ → state q ≡ σ
      is_state q σ h g = goal_type (of_state_law q h refl refl) g

      pub has_it : (q : ℕ) → q < max_states → bit_of q had ≡ 1 → (flags : List ℕ) (u : Term) → At w.ns i u → (σ : Ty) → Goal w.rs q σ → Has w flags u σ
      unfolding Args off countᵗ
      has_it q h b flags u at_i σ g =
          let (a, ρ, o, ga) = arrow_of in
          let m = (s.types.arrow_row given a ρ ga).states_in q h (ap (bit_of q) (sym eh) ∙ b) in
          let c = given_has w flags []ᵗ (state q) nd.number a ρ (state q) o m refl tt in
          subst (Has w flags u) (is_state q σ h g) (subst (λ v. Has w flags v (state q)) (sym (alone u at_i)) c)

      pub lacks_it : (q : ℕ) → q < max_states → (bit_of q had ≡ 1 → ⊥) → (u : Term) → At w.ns i u → (σ : Ty) → Goal w.rs q σ → Has w w.kept u σ → ⊥
      unfolding off countᵗ
      lacks_it q h d u at_i σ g c =
          let v = subst (λ v. Has w w.kept v σ) (alone u at_i) c in
          let (a, ρ, υ, o, m, z, args) = given_had w w.kept []ᵗ σ nd.number v in
          let (a', ρ', o', ga) = arrow_of in
          let st = is_state q σ h g in
          let same : υ ≡ state q = cc in
          let sets : a ≡ a' = cc in
          let m' = subst (λ y. Memᴰ (state q) (members y)) sets (subst (λ y. Memᴰ y (members a)) same m) in
          d (ap (bit_of q) eh ∙ (s.types.arrow_row given a' ρ' ga).states_out q m')

    pub seen_given : had < 65536 → r.had ≡ had → r.lacked ≡ 65535 - had → Seen x memo i r
    seen_given small a l =
        record {
          yes = λ w users ready q h b flags inc u at_i σ g. has_it w ready.setting q h (ap (bit_of q) (sym a) ∙ b) flags u at_i σ g;
          no = λ w users ready q h b u at_i σ g c. lacks_it w ready.setting q h (all_bit q 65535 had small refl (ap (bit_of q) (sym l) ∙ b)) u at_i σ g c;
        }

-- a parameter alone and a state
module _ (x : Case) (nd : Node) (goal : ℕ) where
  module _ (own given had : ℕ) (none : nd.count ≡ 0) (low : goal < max_states) (eo : own ≡ own_in_spec x.test) (eg : given ≡ off_of x.t nd.number own) (there : given ≡ no_number → ⊥) (big : max_states ≤ given) (eh : had ≡ states_of_spec x.t given) where
    nothing : Outlook
    nothing = record { had = 0; lacked = 0 }

    pub alone_known : Alone x nd goal (Some (eqb (bit_of goal had) 1))
    alone_known =
        record {
          yes = λ e w users i s f not-con not-nt flags inc u at_i σ g. has_it x [] i nothing own given had nd f not-con not-nt none eo eg there big eh w s goal low (eqb-true (bit_of goal had) 1 (same_Some _ _ e)) flags u at_i σ g;
          no = λ e w i s f not-con not-nt u at_i σ g c. lacks_it x [] i nothing own given had nd f not-con not-nt none eo eg there big eh w s goal low (eqb-false (bit_of goal had) 1 (same_Some _ _ e)) u at_i σ g c;
        }

-- all members of an arrow, where they stand in one cell and are known to be had
module _ (x : Case) (memo : List ℕ) (i g : ℕ) where
  pub had_seen : (near mask : ℕ) (known : Outlook) (left : ℕ) → near ≡ near_of_spec x.t g → (near ≡ no_number → ⊥) → mask ≡ mask_of x.t g → Looks memo (wide_in x.test) (stamp_in x.test) i (near * 32) known → Leaves mask known.had left → AllHad x memo i g (eqb left 0)
  had_seen near mask known left en there em looks leaves = record { had = λ y w users ready a ρ ga j h. having (eqb-true left 0 y) w users ready a ρ ga j h }
    where
      having : left ≡ 0 → (w : World) (users : List ℕ) → Ready x w memo users → (a : Tys) (ρ : Ty) → Goal w.rs g (arrow a ρ) → (j : ℕ) → j < length (members a) → Yes x w users i (member_of_spec x.t g j)
      having z w users ready a ρ ga j h =
          let (word, bit) = (ready.setting.types.arrow_row g a ρ ga).near (λ e. there (en ∙ e)) j h in
          let m = member_of_spec x.t g j in
          let cell : m / 32 ≡ near * 32 / 32 = omega arith in
          ready.right.yes i m (looks.yes m cell (had_bit (m % 32) (leaves.all (m % 32) (ap (bit_of (m % 32)) em ∙ bit))))
        where
          had_bit : (k : ℕ) → (bit_of k left ≡ 1) ⊎ (bit_of k known.had ≡ 1) → bit_of k known.had ≡ 1
          had_bit k (inl b) = let e = ap (bit_of k) z in let n = zero_bit k in absurd (omega arith)
          had_bit k (inr b) = b

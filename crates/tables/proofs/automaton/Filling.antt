-- The automaton as it is filled, one constructor after another.
use Prim.Native.Nat.{ℕ, ◌+◌, ◌*◌, ◌%◌, ◌<◌, ◌≤◌}
use native.Mathlib.Omega.{arith}
use native.Mathlib.Decide.{ℕ_discrete}
use mathlib.Core.Path.{◌≡◌, refl, sym, ap, subst, ◌∙◌}
use mathlib.Core.List.{List}
use lib.ListN.{length, get_or}
use Rattle.casefile.specs.Fields.{byte}
use Rattle.casefile.proofs.Payloads.{arity_small}
use Rattle.index.specs.layout.Layout.{max_states, max_constructors, targets_base, present_at, arities_at, groups_at}
use Rattle.index.specs.enter.Entering.{stored}
use Rattle.transitions.specs.places.RowPlaces.{place_in, NoPlaceIn, IsPlaceIn}
use Rattle.transitions.specs.rows.Rows.{IsArity}
use Rattle.marks.specs.Marks.{bit_of}
use Rattle.tables.specs.Frames.{Within}
use Rattle.tables.specs.reading.Cells.{targets_of_spec, present_of_spec, arity_of_spec}
use Rattle.tables.specs.automaton.Packing.{packed_at, Presents, FillsTargets, ConstructorSays}
use Rattle.tables.proofs.Frames.{Put, within_none, within_then, within_wider, store_long, store_here, store_other, within_store}

pub packed_is : (file : List ℕ) (place a b c d : ℕ) → a ≡ byte file (place + 2) → b ≡ byte file (place + 3) → c ≡ byte file (place + 4) → d ≡ byte file (place + 5) → a % 16 + 16 * (b % 16) + 256 * (c % 16) + 4096 * (d % 16) ≡ packed_at file place
unfolding packed_at
packed_is file place a b c d ea eb ec ed = rw (ea, eb, ec, ed) refl

-- The states with a transition.
pub record PresentsTo (index : List ℕ) (c q r : ℕ) : Type 0 where
  pub up_to : q ≤ max_states
  pub small : r < 65536
  pub in_set : (p : ℕ) → p < q → (place_in index p c ≡ 0 → ⊥) → bit_of p r ≡ 1
  pub only : (p : ℕ) → bit_of p r ≡ 1 → place_in index p c ≡ 0 → ⊥

-- The targets of a constructor.
pub record TargetsTo (file index : List ℕ) (c : ℕ) (before : List ℕ) (q : ℕ) (t : List ℕ) : Type 0 where
  pub up_to : q ≤ max_states
  pub within : Within (targets_base + c * max_states) (targets_base + c * max_states + max_states) before t
  pub targets : groups_at ≤ length before → (p : ℕ) → p < q → (place_in index p c ≡ 0 → ⊥) → targets_of_spec t c p ≡ packed_at file (place_in index p c)

pub targets_none : {file index : List ℕ} {c : ℕ} {before : List ℕ} → TargetsTo file index c before 0 before
targets_none = record { up_to = omega arith; within = within_none; targets = λ room p h. absurd (omega arith) }

module _ {file index : List ℕ} {c : ℕ} {before : List ℕ} {q : ℕ} {t : List ℕ} (so : TargetsTo file index c before q t) where
  module _ (l : c < max_constructors) (h : q < max_states) where
    pub targets_more : (place : ℕ) → IsPlaceIn index q c place → (v : ℕ) → v ≡ packed_at file place → v < 65536 → (after : List ℕ) → after ≡ stored t (targets_base + c * max_states + q) v → TargetsTo file index c before (q + 1) after
    targets_more place is v ev small after ea =
        record { up_to = omega arith; within = within_then so.within (within_store put (omega arith) (omega arith)); targets = λ room p k ne. at room p k ne (ℕ_discrete p q) }
      where
        put : Put t (targets_base + c * max_states + q) v after
        put = record { is = ea }

        at : groups_at ≤ length before → (p : ℕ) → p < q + 1 → (place_in index p c ≡ 0 → ⊥) → Dec (p ≡ q) → targets_of_spec after c p ≡ packed_at file (place_in index p c)
        at room p k ne (no z) =
            let y : (p ≡ q → ⊥) = z in
            store_other put (targets_base + c % max_constructors * max_states + p % max_states) (λ e. z (omega arith)) ∙ so.targets room p (omega arith) ne
        at room p k ne (yes z) =
            let here : targets_base + c % max_constructors * max_states + p % max_states ≡ targets_base + c * max_states + q = omega arith in
            let lt = so.within.long in
            ap (λ x. get_or after x 0) here ∙ store_here put small (omega arith) ∙ ev ∙ ap (packed_at file) (is.place ∙ ap (λ x. place_in index x c) (sym z))

    pub targets_pass : NoPlaceIn index q c → TargetsTo file index c before (q + 1) t
    targets_pass none = record { up_to = omega arith; within = so.within; targets = λ room p k ne. at room p k ne (ℕ_discrete p q) }
      where
        at : groups_at ≤ length before → (p : ℕ) → p < q + 1 → (place_in index p c ≡ 0 → ⊥) → Dec (p ≡ q) → targets_of_spec t c p ≡ packed_at file (place_in index p c)
        at room p k ne (yes z) = absurd (ne (ap (λ x. place_in index x c) z ∙ none h l))
        at room p k ne (no z) = let y : (p ≡ q → ⊥) = z in so.targets room p (omega arith) ne

-- All constructors.
pub record AutomatonTo (file index : List ℕ) (constructors : ℕ) (before : List ℕ) (c : ℕ) (t : List ℕ) : Type 0 where
  pub up_to : c ≤ max_constructors
  pub within : Within targets_base groups_at before t
  pub says : groups_at ≤ length before → (d : ℕ) → d < c → ConstructorSays file index constructors d t

-- what the table has of a constructor stays, where its cells stay
constructor_stays : {file index : List ℕ} {constructors d : ℕ} (t after : List ℕ) → present_of_spec after d ≡ present_of_spec t d → arity_of_spec after d ≡ arity_of_spec t d → ((q : ℕ) → targets_of_spec after d q ≡ targets_of_spec t d q)
    → ConstructorSays file index constructors d t → ConstructorSays file index constructors d after
constructor_stays {file} {index} {constructors} {d} t after ep ea et s =
    record { present = subst (Presents index constructors d) (sym ep) s.present; arity = λ rs ok ix few. ea ∙ s.arity rs ok ix few; targets = λ q h x. et q ∙ s.targets q h (subst (λ y. bit_of q y ≡ 1) ep x) }

module _ {file index : List ℕ} {constructors : ℕ} {before : List ℕ} {c : ℕ} {t : List ℕ} (so : AutomatonTo file index constructors before c t) where
  pub automaton_more : c < max_constructors → (present arity : ℕ) → Presents index constructors c present → IsArity file index constructors c arity → (a b e : List ℕ) → a ≡ stored t (present_at + c) present → b ≡ stored a (arities_at + c) arity → FillsTargets file index c present b e
      → AutomatonTo file index constructors before (c + 1) e
  automaton_more h present arity ps is a b e ea eb fills =
      record {
        up_to = omega arith;
        within = within_then so.within (within_then (within_store pa (omega arith) (omega arith)) (within_then (within_store pb (omega arith) (omega arith)) (within_wider targets_base groups_at (omega arith) (omega arith) fills.within)));
        says = λ room d k. at room d k (ℕ_discrete d c);
      }
    where
      pa : Put t (present_at + c) present a
      pa = record { is = ea }

      pb : Put a (arities_at + c) arity b
      pb = record { is = eb }

      -- a cell behind the targets, and one of another constructor's targets
      behind : (j : ℕ) → present_at ≤ j → (j ≡ present_at + c → ⊥) → (j ≡ arities_at + c → ⊥) → get_or e j 0 ≡ get_or t j 0
      behind j l x y = fills.within.outside j (λ u v. omega arith) ∙ store_other pb j y ∙ store_other pa j x

      front : (d q : ℕ) → d < c → targets_of_spec e d q ≡ targets_of_spec t d q
      front d q l =
          fills.within.outside (targets_base + d % max_constructors * max_states + q % max_states) (λ u v. omega arith) ∙ store_other pb (targets_base + d % max_constructors * max_states + q % max_states) (λ z. omega arith)
          ∙ store_other pa (targets_base + d % max_constructors * max_states + q % max_states) (λ z. omega arith)

      at : groups_at ≤ length before → (d : ℕ) → d < c + 1 → Dec (d ≡ c) → ConstructorSays file index constructors d e
      at room d k (no z) =
          let y : (d ≡ c → ⊥) = z in
          constructor_stays t e (behind (present_at + d % max_constructors) (omega arith) (λ u. z (omega arith)) (λ u. omega arith)) (behind (arities_at + d % max_constructors) (omega arith) (λ u. omega arith) (λ u. z (omega arith)))
          (λ q. front d q (omega arith)) (so.says room d (omega arith))
      at room d k (yes z) =
          let lt = so.within.long in
          let la = store_long pa in
          let lb = store_long pb in
          let pp : present_at + c % max_constructors ≡ present_at + c = omega arith in
          let qq : arities_at + c % max_constructors ≡ arities_at + c = omega arith in
          let present_is : present_of_spec e c ≡ present = ap (λ x. get_or e x 0) pp ∙ fills.within.outside (present_at + c) (λ u v. omega arith) ∙ store_other pb (present_at + c) (λ u. omega arith) ∙ store_here pa ps.small (omega arith) in
          subst (λ x. ConstructorSays file index constructors x e) (sym z)
          (record {
            present = subst (Presents index constructors c) (sym present_is) ps;
            arity = λ rs ok ix few.
                let r = is rs ok ix few in
                let s = arity_small ok c in
                ap (λ x. get_or e x 0) qq ∙ fills.within.outside (arities_at + c) (λ u v. omega arith) ∙ store_here pb (omega arith) (omega arith) ∙ r;
            targets = λ q l x. let there = subst (λ y. bit_of q y ≡ 1) present_is x in fills.targets (omega arith) q l there (ps.only q there);
          })

-- The arguments of a constructor, one after another, each against its target.
use Prim.Native.Nat.{ℕ, suc, ◌-◌, ◌/◌, ◌%◌, ◌^◌, ◌<◌, ◌≤◌}
use native.Mathlib.Omega.{arith}
use native.Mathlib.Nat.{pow-succ', div-div-eq-div-mul}
use mathlib.Core.Path.{◌≡◌, refl, sym, ap, subst, ◌∙◌}
use mathlib.Core.Bool.{Bool, true, false, true≢false}
use mathlib.Core.List.Memᴰ
use mathlib.Core.List.{List, [], ◌∷◌}
use Rattle.std.specs.Prelude.{Some, None}
use Rattle.scheme.specs.Terms.{Terms, ◌∷ᵗ◌, countᵗ}
use Rattle.scheme.specs.Types.{state, members, takes}
use Rattle.index.specs.layout.Layout.{max_states}
use Rattle.answers.specs.declared.Outlook.{Outlook}
use Rattle.tables.specs.reading.Cells.{node_at}
use Rattle.tables.specs.declared.reading.Node.{Node}
use Rattle.tables.specs.Facts.{Goal, of_state_law, AllAt}
use Rattle.term_check.specs.notes.Notes.{base_in}
use Rattle.term_check.specs.heads.Heads.{IsTargets, Leaf}
use Rattle.term_check.specs.Worlds.{Args, Case, World, Has, Ready, Includes, ChecksTerm, ChecksTargets, Targets, Settles}
use Rattle.tables.proofs.nodes.Places.{first_at}
use Rattle.term_check.proofs.Places.{no_terms}
use Rattle.term_check.proofs.check.Keeping.{includes_less, ready_on, keeps_all, keeps_on}
use Rattle.term_check.proofs.check.Terms.{no_targets, built_checked}
use Rattle.term_check.proofs.check.Arguments.{Several, several, some_terms, next_on, stuck}

-- the first target, and the others
pub data Split (n targets : ℕ) (qs : List ℕ) : Type 0 where
  split : (p : ℕ) (ps : List ℕ) → qs ≡ p ∷ ps → targets % 16 ≡ p → p < max_states → Targets (n - 1) (targets / 16) ps → Split n targets qs

pub targets_split : (n targets : ℕ) (qs : List ℕ) → 0 < n → Targets n targets qs → Split n targets qs
targets_split n targets [] some_left (l, f) = absurd (omega arith)
targets_split n targets (p ∷ ps) some_left (l, f) =
    let e : p ≡ targets / 16 ^ 0 % 16 = f 0 (omega arith) in
    let d : targets / 1 ≡ targets = omega arith in
    let i : targets % 16 ≡ p = omega arith in
    split p ps refl i (omega arith) (omega arith, λ k h. f (suc k) (omega arith) ∙ ap (λ (z : ℕ). targets / z % 16) (pow-succ' 16 k) ∙ ap (λ (z : ℕ). z % 16) (sym (div-div-eq-div-mul targets 16 (16 ^ k))))

module _ (x : Case) (memo users : List ℕ) (at n targets : ℕ) where
  pub targets_none : n ≤ 0 → ChecksTargets x memo users at n targets memo users true
  unfolding Args
  targets_none l =
      record {
        keeps = keeps_all x memo users;
        yes = λ y w r flags inc ts al c qs q are. subst (λ z. Args (Has w flags) z (takes qs q)) (sym (no_terms ts (let e : countᵗ ts ≡ 0 = omega arith in e))) tt;
        no = λ y. absurd (true≢false y);
      }

  module _ (some_left : 0 < n) (next : ℕ) (is_next : next ≡ (node_at x.t (base_in x.test) at).next) where
    pub targets_stuck : next ≤ at → ChecksTargets x memo users at n targets memo users false
    targets_stuck l =
        record {
          keeps = keeps_all x memo users;
          yes = λ y. absurd (true≢false (sym y));
          no = λ y w r ts al c qs q are h. stuck x w r.setting at next is_next l ts al (some_terms n ts c some_left);
        }

    module _ (memo' users' : List ℕ) (b : Bool) (told : ChecksTerm x memo users at (targets % 16) memo' users' b) where
      -- the first target is the goal
      goal_is : (w : World) (p : ℕ) → targets % 16 ≡ p → p < max_states → Goal w.rs (targets % 16) (state p)
      goal_is w p e h = of_state_law p h e refl

      pub targets_lack : b ≡ false → ChecksTargets x memo users at n targets memo' users' false
      unfolding Args takes members
      targets_lack eb =
          record {
            keeps = told.keeps;
            yes = λ y. absurd (true≢false (sym y));
            no = λ y w r ts al c qs q are h. lack w r ts al qs q h (some_terms n ts c some_left) (targets_split n targets qs some_left are);
          }
        where
          lack : (w : World) → Ready x w memo users → (ts : Terms) → AllAt w.ns at ts → (qs : List ℕ) (q : ℕ) → Args (Has w w.kept) ts (takes qs q) → Several n ts → Split n targets qs → ⊥
          lack w r ts al qs q h (several t rest e f) (split p ps i j l are) =
              let k : Args (Has w w.kept) (t ∷ᵗ rest) (takes (p ∷ ps) q) = subst (λ z. Args (Has w w.kept) (t ∷ᵗ rest) (takes z q)) i (subst (λ z. Args (Has w w.kept) z (takes qs q)) e h) in
              told.no eb w r t (first_at w.ns at t rest (subst (AllAt w.ns at) e al)) (state p) (goal_is w p j l) (k.0 (state p) (Memᴰ.head refl))

      module _ (eb : b ≡ true) (memo'' users'' : List ℕ) (d : Bool) (rest-told : ChecksTargets x memo' users' next (n - 1) (targets / 16) memo'' users'' d) where
        pub targets_rest : ChecksTargets x memo users at n targets memo'' users'' d
        unfolding Args takes members
        targets_rest =
            record {
              keeps = keeps_on told.keeps rest-told.keeps;
              yes = λ y w r flags inc ts al c qs q are. holds_all y w r flags inc ts al qs q (some_terms n ts c some_left) (targets_split n targets qs some_left are);
              no = λ y w r ts al c qs q are h. lack y w r ts al qs q h (some_terms n ts c some_left) (targets_split n targets qs some_left are);
            }
          where
            holds_all : d ≡ true → (w : World) → Ready x w memo users → (flags : List ℕ) → Includes x w users'' flags → (ts : Terms) → AllAt w.ns at ts → (qs : List ℕ) (q : ℕ) → Several n ts → Split n targets qs → Args (Has w flags) ts (takes qs q)
            holds_all y w r flags inc ts al qs q (several t rest e f) (split p ps i j l are) =
                let s = r.setting in
                let al' = subst (AllAt w.ns at) e al in
                let first = first_at w.ns at t rest al' in
                let less = includes_less x w users' users'' rest-told.keeps.grows flags inc in
                let both : Args (Has w flags) (t ∷ᵗ rest) (takes (p ∷ ps) q) = (
                  λ m k. subst (Has w flags t) (sym (Memᴰ.eq_of_singleton k)) (told.yes eb w r flags less t first (state p) (goal_is w p j l)),
                  rest-told.yes y w (ready_on told.keeps r) flags inc rest (next_on x w s at next is_next t rest al') f ps q are,
                ) in
                subst (λ z. Args (Has w flags) z (takes qs q)) (sym e) (subst (λ z. Args (Has w flags) (t ∷ᵗ rest) (takes z q)) (sym i) both)

            lack : d ≡ false → (w : World) → Ready x w memo users → (ts : Terms) → AllAt w.ns at ts → (qs : List ℕ) (q : ℕ) → Args (Has w w.kept) ts (takes qs q) → Several n ts → Split n targets qs → ⊥
            lack y w r ts al qs q h (several t rest e f) (split p ps i j l are) =
                let s = r.setting in
                let al' = subst (AllAt w.ns at) e al in
                let k : Args (Has w w.kept) (t ∷ᵗ rest) (takes (p ∷ ps) q) = subst (λ z. Args (Has w w.kept) (t ∷ᵗ rest) (takes z q)) i (subst (λ z. Args (Has w w.kept) z (takes qs q)) e h) in
                rest-told.no y w (ready_on told.keeps r) rest (next_on x w s at next is_next t rest al') f ps q are k.1

-- one target is left, and the argument has a constructor in front: its own arguments decide
module _ (x : Case) (memo users : List ℕ) (at n targets : ℕ) (a : Node) (ea : a ≡ node_at x.t (base_in x.test) at) (one : n ≡ 1) (et : a.tag ≡ 0) where
  is_next : a.next ≡ (node_at x.t (base_in x.test) at).next
  is_next = ap (λ (z : Node). z.next) ea

  pub down_none : IsTargets x.t a.number a.count (targets % 16) None → ChecksTargets x memo users at n targets memo users false
  down_none is = targets_lack x memo users at n targets (omega arith) a.next is_next memo users false (no_targets x memo users at (targets % 16) a ea et is) refl

  pub down : (own : ℕ) → IsTargets x.t a.number a.count (targets % 16) (Some own) → (first : ℕ) → first ≡ suc at → (memo' users' : List ℕ) (b : Bool) → ChecksTargets x memo users first a.count own memo' users' b → ChecksTargets x memo users at n targets memo' users' b
  down own is first is-first memo' users' b told = go b (built_checked x memo users at (targets % 16) a ea et own is first is-first memo' users' b told)
    where
      go : (d : Bool) → ChecksTerm x memo users at (targets % 16) memo' users' d → ChecksTargets x memo users at n targets memo' users' d
      go false term = targets_lack x memo users at n targets (omega arith) a.next is_next memo' users' false term refl
      go true term = targets_rest x memo users at n targets (omega arith) a.next is_next memo' users' true term refl memo' users' true (targets_none x memo' users' a.next (n - 1) (targets / 16) (omega arith))

-- a constructor that stands alone, and a set of states
pub leaf_settles : (x : Case) (memo users : List ℕ) (at asked : ℕ) (a : Node) (r : Outlook) → Leaf x.t a asked r → a ≡ node_at x.t (base_in x.test) at → a.tag ≡ 0 → Settles x memo users at asked memo users r
leaf_settles x memo users at asked a r leaf ea et =
    record {
      finds = record { keeps = keeps_all x memo users; found = λ w ready q b. let (none, is) = leaf.had q b in (built_checked x memo users at q a ea et 0 (subst (λ k. IsTargets x.t a.number k q (Some 0)) (sym none) is) (suc at) refl memo users true (targets_none x memo users (suc at) a.count 0 (omega arith))).yes refl w ready };
      within = λ q b. (leaf.lacked q b).0;
      lacks = λ w ready q b. (no_targets x memo users at q a ea et (leaf.lacked q b).1).no refl w ready;
    }

-- Targets one after another against a goal: an arrow with one member, which is a state, for each of them.
use Prim.Native.Nat.{ℕ, suc, ◌-◌, ◌/◌, ◌%◌, ◌^◌, ◌<◌, ◌≤◌}
use native.Mathlib.Omega.{arith}
use native.Mathlib.Nat.{pow-succ', div-one, div-div-eq-div-mul}
use mathlib.Core.Path.{◌≡◌, refl, sym, ap, ap₂, subst, ◌∙◌}
use mathlib.Core.Bool.{Bool, true, false, true≢false}
use mathlib.Core.List.{List, [], ◌∷◌}
use borrow.Author.Tests.{ltb-true, ltb-false}
use lib.Dec.{ltb}
use lib.ListN.{length, get_or}
use Rattle.scheme.specs.Types.{Ty, state, arrow, Tys, []ʸ, ◌∷ʸ◌, members, takes, final}
use Rattle.casefile.specs.Records.{Record}
use Rattle.index.specs.layout.Layout.{max_states}
use Rattle.tables.specs.reading.Cells.{result_of, many_of_spec, member_of_spec}
use Rattle.tables.specs.Facts.{Goal, of_state_law, TypesAre}
use Rattle.term_check.specs.Worlds.{World}
use Rattle.term_check.specs.heads.Heads.{Matches}
use Rattle.term_check.proofs.Goals.{goal_type, state_below}

-- the digits of a number to the base 16: the first, and the others
digit_first : (n : ℕ) → n / 16 ^ 0 % 16 ≡ n % 16
digit_first n = ap (λ d. d % 16) (div-one n)

digit_next : (n k : ℕ) → n / 16 ^ suc k % 16 ≡ n / 16 / 16 ^ k % 16
digit_next n k = ap (λ d. n / d % 16) (pow-succ' 16 k) ∙ ap (λ d. d % 16) (sym (div-div-eq-div-mul n 16 (16 ^ k)))

-- one member alone
only : (a : Tys) (τ : Ty) → length (members a) ≡ 1 → get_or (members a) 0 (state 0) ≡ τ → a ≡ τ ∷ʸ []ʸ
unfolding members
only []ʸ τ l e = absurd (omega arith)
only (m ∷ʸ []ʸ) τ l e = ap (λ z. z ∷ʸ []ʸ) e
only (m ∷ʸ (n ∷ʸ ns)) τ l e = absurd (omega arith)

module _ {rs : List Record} {t : List ℕ} (are : TypesAre rs t) where
  -- an arrow from a state alone, by its row, in and out
  one_member : (g p : ℕ) (σ : Ty) → Goal rs g σ → many_of_spec t g ≡ 1 → member_of_spec t g 0 ≡ p → p < 16 → (r : Ty) × (σ ≡ arrow (state p ∷ʸ []ʸ) r) × Goal rs (result_of t g) r
  one_member g p (state q) x m e h =
      let (i, k) = state_below q x in
      let none = (are.state_row q k).no_members in
      let same = ap (many_of_spec t) i in
      absurd (omega arith)
  one_member g p (arrow a r) x m e h =
      let row = are.arrow_row g a r x in
      let l : length (members a) ≡ 1 = sym row.many ∙ m in
      let is = goal_type (row.member 0 (omega arith)) (subst (λ j. Goal rs j (state p)) (sym e) (of_state_law p h refl refl)) in
      (r, ap (λ b. arrow b r) (only a (state p) l is), row.result)

  member_one : (g p : ℕ) (r : Ty) → Goal rs g (arrow (state p ∷ʸ []ʸ) r) → (many_of_spec t g ≡ 1) × (member_of_spec t g 0 ≡ p) × Goal rs (result_of t g) r
  unfolding members
  member_one g p r x =
      let row = are.arrow_row g (state p ∷ʸ []ʸ) r x in
      (row.many, (state_below p (row.member 0 (omega arith))).0, row.result)

  -- a state, and no targets
  end_yes : (g : ℕ) (σ : Ty) → Goal rs g σ → g < max_states → (ps : List ℕ) (q : ℕ) → length ps ≡ 0 → final σ ≡ state q → σ ≡ takes ps q
  unfolding takes final
  end_yes g σ x h [] q l f = let i = goal_type x (of_state_law g h refl refl) in i ∙ sym (ap final i) ∙ f
  end_yes g σ x h (p ∷ ps) q l f = absurd (omega arith)

  end_no : (g : ℕ) (σ : Ty) → Goal rs g σ → max_states ≤ g → (ps : List ℕ) (q : ℕ) → length ps ≡ 0 → σ ≡ takes ps q → ⊥
  unfolding takes
  end_no g σ x h [] q l e = let (i, k) = state_below q (subst (Goal rs g) e x) in omega arith
  end_no g σ x h (p ∷ ps) q l e = absurd (omega arith)

  -- the first of several targets
  first_of : (g : ℕ) (σ : Ty) → Goal rs g σ → (ps : List ℕ) (q : ℕ) → 0 < length ps → σ ≡ takes ps q → (many_of_spec t g ≡ 1) × (member_of_spec t g 0 ≡ get_or ps 0 0)
  unfolding takes
  first_of g σ x [] q l e = absurd (omega arith)
  first_of g σ x (p ∷ ps) q l e = let (many, member, y) = member_one g p (takes ps q) (subst (Goal rs g) e x) in (many, member)

module _ (t : List ℕ) (g rest i : ℕ) where
  pub match_end : i ≤ 0 → Matches t g rest i (ltb g max_states)
  match_end z =
      record {
        yes = λ e w are σ x ps q l digits f. end_yes are g σ x (ltb-true g max_states e) ps q (omega arith) f;
        no = λ e w are σ x ps q l digits f. end_no are g σ x (ltb-false g max_states e) ps q (omega arith) f;
      }

  -- a state, where no target is left
  pub match_state : i ≤ 0 → g < max_states → Matches t g rest i true
  match_state z h =
      record {
        yes = λ e w are σ x ps q l digits f. end_yes are g σ x h ps q (omega arith) f;
        no = λ e. absurd (true≢false e);
      }

  -- a state, where one is left
  pub match_short : 0 < i → g < max_states → Matches t g rest i false
  match_short z h =
      record {
        yes = λ e. absurd (true≢false (sym e));
        no = λ e w are σ x ps q l digits f.
            let one = (first_of are g σ x ps q (omega arith) f).0 in
            let none = (are.state_row g h).no_members in
            omega arith;
      }

  pub match_many : (m : ℕ) → 0 < i → m ≡ many_of_spec t g → (m ≡ 1 → ⊥) → Matches t g rest i false
  match_many m h is d =
      record {
        yes = λ e. absurd (true≢false (sym e));
        no = λ e w are σ x ps q l digits f. d (is ∙ (first_of are g σ x ps q (omega arith) f).0);
      }

  pub match_member : (m : ℕ) → 0 < i → m ≡ member_of_spec t g 0 → (m ≡ rest % 16 → ⊥) → Matches t g rest i false
  match_member m h is d =
      record {
        yes = λ e. absurd (true≢false (sym e));
        no = λ e w are σ x ps q l digits f. d (is ∙ (first_of are g σ x ps q (omega arith) f).1 ∙ digits 0 h ∙ digit_first rest);
      }

  -- the first target is the member of the goal, and the others are asked of its result
  pub match_next : (n p h j : ℕ) (r : Bool) → j ≡ i - 1 → 0 < i → n ≡ many_of_spec t g → n ≡ 1 → p ≡ member_of_spec t g 0 → p ≡ rest % 16 → h ≡ result_of t g → Matches t h (rest / 16) j r → Matches t g rest i r
  unfolding takes final
  match_next n p h j r next some en many ep member is m =
      record {
        yes = λ e w are σ x ps q l digits f. go_yes e w are σ x ps q l digits f;
        no = λ e w are σ x ps q l digits f. go_no e w are σ x ps q l digits f;
      }
    where
      go_yes : r ≡ true → (w : World) → TypesAre w.rs t → (σ : Ty) → Goal w.rs g σ → (ps : List ℕ) (q : ℕ) → length ps ≡ i → ((k : ℕ) → k < i → get_or ps k 0 ≡ rest / 16 ^ k % 16) → final σ ≡ state q → σ ≡ takes ps q
      go_yes e w are σ x [] q l digits f = absurd (omega arith)
      go_yes e w are σ x (p ∷ ps) q l digits f =
          let (ρ, s, y) = one_member are g (rest % 16) σ x (sym en ∙ many) (sym ep ∙ member) (omega arith) in
          let first : p ≡ rest % 16 = digits 0 some ∙ digit_first rest in
          let others = m.yes e w are ρ (subst (λ j. Goal w.rs j ρ) (sym is) y) ps q (omega arith) (λ k l. digits (suc k) (omega arith) ∙ digit_next rest k) (sym (ap final s) ∙ f) in
          s ∙ ap₂ (λ z τ. arrow (state z ∷ʸ []ʸ) τ) (sym first) others

      go_no : r ≡ false → (w : World) → TypesAre w.rs t → (σ : Ty) → Goal w.rs g σ → (ps : List ℕ) (q : ℕ) → length ps ≡ i → ((k : ℕ) → k < i → get_or ps k 0 ≡ rest / 16 ^ k % 16) → σ ≡ takes ps q → ⊥
      go_no e w are σ x [] q l digits f = absurd (omega arith)
      go_no e w are σ x (p ∷ ps) q l digits f =
          let (one, a, y) = member_one are g p (takes ps q) (subst (Goal w.rs g) f x) in
          m.no e w are (takes ps q) (subst (λ j. Goal w.rs j (takes ps q)) (sym is) y) ps q (omega arith) (λ k l. digits (suc k) (omega arith) ∙ digit_next rest k) refl

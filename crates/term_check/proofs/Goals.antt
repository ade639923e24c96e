-- Goals by number: the same number for the same type, and arrows taken off.
use Prim.Native.Nat.{ℕ, zero, suc, ◌<◌}
use native.Mathlib.Omega.{arith}
use mathlib.Core.Path.{◌≡◌, refl, sym, ap, subst, ◌∙◌}
use mathlib.Core.List.{List}
use mathlib.Core.Option.{Option, none, some}
use lib.ListN.{get_or}
use Rattle.scheme.specs.Types.{Ty, state, arrow, off}
use Rattle.casefile.specs.Records.{Record}
use Rattle.casefile.specs.Tables.{types_of}
use Rattle.index.specs.layout.Layout.{max_states, max_goals, no_number}
use Rattle.tables.specs.reading.Cells.{result_of, off_of}
use Rattle.tables.specs.Facts.{Goal, of_state_law, of_arrow, TypesAre}
use Rattle.tables.proofs.reading.Offs.{off_none, off_next}

-- one number, one type
pub goal_type : {rs : List Record} {g : ℕ} {τ σ : Ty} → Goal rs g τ → Goal rs g σ → τ ≡ σ
goal_type (of_state_law p hp e f) (of_state_law q hq x y) = f ∙ ap state (sym e ∙ x) ∙ sym y
goal_type (of_state_law p hp e f) (of_arrow m a r k x u y) = absurd (omega arith)
goal_type (of_arrow m a r k x u y) (of_state_law q hq e f) = absurd (omega arith)
goal_type {rs} (of_arrow m a r k x u y) (of_arrow n b s l z v w) =
    let i : m ≡ n = omega arith in
    y ∙ sym u ∙ ap (λ j. get_or (types_of rs) j (state 0)) i ∙ v ∙ sym w

-- a state's number is below those of arrows
pub state_below : {rs : List Record} {g : ℕ} (q : ℕ) → Goal rs g (state q) → (g ≡ q) × (q < max_states)
state_below q (of_state_law p h e f) = let i : q ≡ p = cc in (omega arith, omega arith)
state_below q (of_arrow m a r k x u y) = let z : ◌≡◌ {A = ℕ} 0 1 = cc in absurd (omega arith)

module _ {rs : List Record} {t : List ℕ} (are : TypesAre rs t) where
  pub goal_below : {g : ℕ} {τ : Ty} → Goal rs g τ → g < max_goals
  goal_below (of_state_law q h e f) = let n = are.few_types_law in omega arith
  goal_below (of_arrow m a r k x u y) = let n = are.few_types_law in omega arith

  pub goal_there : {g : ℕ} {τ : Ty} → Goal rs g τ → g ≡ no_number → ⊥
  goal_there x e = let n = goal_below x in omega arith

  -- a goal with arrows off is the type with arrows off
  pub off_goal : (k g : ℕ) (τ σ : Ty) → Goal rs g τ → off k τ ≡ some σ → Goal rs (off_of t k g) σ
  unfolding off off_of
  off_goal zero g τ σ x e = subst (Goal rs g) (let i : τ ≡ σ = cc in i) x
  off_goal (suc k) g (state q) σ x e = let z : ◌≡◌ {A = ℕ} 0 1 = cc in absurd (omega arith)
  off_goal (suc k) g (arrow a r) σ x e =
      let row = are.arrow_row g a r x in
      subst (λ h. Goal rs h σ) (sym (off_next t k g (goal_there x))) (off_goal k (result_of t g) r σ row.result e)

  pub off_gone : (k g : ℕ) (τ : Ty) → Goal rs g τ → off k τ ≡ none → off_of t k g ≡ no_number
  unfolding off off_of
  off_gone zero g τ x e = let z : ◌≡◌ {A = ℕ} 0 1 = cc in absurd (omega arith)
  off_gone (suc k) g (state q) x e =
      let (i, h) = state_below q x in
      let row = are.state_row q h in
      off_next t k g (goal_there x) ∙ none_off k (result_of t g) (ap (result_of t) i ∙ row.no_result)
    where
      none_off : (j h : ℕ) → h ≡ no_number → off_of t j h ≡ no_number
      none_off zero h e = e
      none_off (suc j) h e = off_none t (suc j) h e (omega arith)
  off_gone (suc k) g (arrow a r) x e =
      let row = are.arrow_row g a r x in
      off_next t k g (goal_there x) ∙ off_gone k (result_of t g) r row.result e

  -- so that a goal that is another with arrows off is its type with arrows off
  pub off_is : (k g h : ℕ) (τ σ : Ty) → Goal rs g τ → Goal rs h σ → off_of t k g ≡ h → off k τ ≡ some σ
  off_is k g h τ σ x y e = go (off k τ) refl
    where
      go : (o : Option Ty) → off k τ ≡ o → o ≡ some σ
      go none f = absurd (goal_there y (sym e ∙ off_gone k g τ x f))
      go (some ρ) f = ap some (goal_type (subst (λ j. Goal rs j ρ) e (off_goal k g τ ρ x f)) y)

  -- and the other way round
  pub off_number : (k g h : ℕ) (τ σ : Ty) → Goal rs g τ → Goal rs h σ → off k τ ≡ some σ → off_of t k g ≡ h
  off_number k g h τ σ x y e = are.one_number (off_of t k g) h σ (off_goal k g τ σ x e) y

  -- there is an arrow where a goal with arrows off is an arrow
  pub off_some : (k g : ℕ) (τ : Ty) → Goal rs g τ → (off_of t k g ≡ no_number → ⊥) → (σ : Ty) × (off k τ ≡ some σ) × Goal rs (off_of t k g) σ
  off_some k g τ x ne = go (off k τ) refl
    where
      go : (o : Option Ty) → off k τ ≡ o → (σ : Ty) × (off k τ ≡ some σ) × Goal rs (off_of t k g) σ
      go none f = absurd (ne (off_gone k g τ x f))
      go (some ρ) f = (ρ, f, off_goal k g τ ρ x f)

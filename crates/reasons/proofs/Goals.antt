-- A goal's number is the number that is printed for its type; a type leads to a goal where, arrows off, it is the goal.
use Prim.Native.Nat.{ℕ, ◌+◌, ◌<◌}
use native.Mathlib.Omega.{arith}
use mathlib.Core.Path.{◌≡◌, refl, sym, ap, ◌∙◌}
use mathlib.Core.Bool.{Bool, true, false, true≢false}
use mathlib.Core.List.{List}
use mathlib.Core.Option.{Option, none, some}
use lib.ListN.{length, get_or}
use Rattle.scheme.specs.Lists.{found}
use Rattle.scheme.specs.Types.{Ty, state, arrow, same, off}
use Rattle.scheme.specs.Reasons.{leads_to}
use Rattle.scheme.proofs.Lists.{true→T, T→true}
use Rattle.scheme.proofs.Exact.{same→≡, same_refl}
use Rattle.casefile.specs.Records.{Record}
use Rattle.casefile.specs.Kinds.{Kind, count}
use Rattle.casefile.specs.Tables.{types_of}
use Rattle.casefile.specs.Explanations.{number_of, wanted_in, goal_number}
use Rattle.casefile.proofs.Explanations.{number_first}
use Rattle.index.specs.layout.Layout.{max_states}
use Rattle.tables.specs.Facts.{Goal, of_state_law, of_arrow, TypesAre}

-- a type leads to a goal where, with arrows off, it is the goal, and only there
module _ (n : ℕ) (σ τ : Ty) where
  pub off_leads : off n τ ≡ some σ → leads_to same n σ τ ≡ true
  unfolding leads_to found
  off_leads e = ap (λ o. found o (λ ρ. same ρ σ)) e ∙ T→true (same σ σ) (same_refl σ)

  pub leads_off : leads_to same n σ τ ≡ true → off n τ ≡ some σ
  unfolding leads_to found
  leads_off e = go (off n τ) e
    where
      go : (o : Option Ty) → found o (λ ρ. same ρ σ) ≡ true → o ≡ some σ
      go none f = absurd (true≢false (sym f))
      go (some ρ) f = ap some (same→≡ ρ σ (true→T f))

  pub leads_not : (off n τ ≡ some σ → ⊥) → leads_to same n σ τ ≡ false
  leads_not d = go (leads_to same n σ τ) refl
    where
      go : (b : Bool) → leads_to same n σ τ ≡ b → b ≡ false
      go true e = absurd (d (leads_off e))
      go false e = refl

-- the number of a goal is what is printed of its type
pub goal_printed : {rs : List Record} {t : List ℕ} → TypesAre rs t → length (types_of rs) ≡ count Kind.type rs → (g : ℕ) (τ : Ty) → Goal rs g τ → goal_number (wanted_in (types_of rs) τ) ≡ g
unfolding goal_number wanted_in
goal_printed {rs} are many g τ (of_state_law q h eg eτ) = ap (λ σ. goal_number (wanted_in (types_of rs) σ)) eτ ∙ sym eg
goal_printed {rs} are many g τ (of_arrow m a r h eg et eτ) =
    ap (λ σ. goal_number (wanted_in (types_of rs) σ)) eτ ∙ ap (λ k. max_states + k) (ap (λ σ. number_of σ (types_of rs)) (sym et) ∙ number_first (types_of rs) m (omega arith) first) ∙ sym eg
  where
    first : (j : ℕ) → j < m → get_or (types_of rs) j (state 0) ≡ get_or (types_of rs) m (state 0) → ⊥
    first j l e =
        let k = are.one_number (max_states + j) (max_states + m) (arrow a r) (of_arrow j a r (omega arith) refl (e ∙ et) refl) (of_arrow m a r h refl et refl) in
        omega arith

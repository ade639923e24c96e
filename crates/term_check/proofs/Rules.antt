-- The typing rules for terms by their heads: what a head's type asks of the arguments, in and out.
use Prim.Native.Nat.{ℕ, zero, suc, ◌<◌}
use native.Mathlib.Omega.{arith}
use native.Mathlib.Nat.{le_of_suc-le-suc}
use mathlib.Core.Path.{◌≡◌, refl, sym, ap, subst, ◌∙◌}
use mathlib.Core.Bool.{true, true≢false}
use mathlib.Core.List.Memᴰ
use mathlib.Core.List.{List, [], ◌∷◌, Memᴰ}
use mathlib.Core.Logic.{◌⊎◌, inl, inr}
use mathlib.Core.Option.{some}
use lib.Dec.{T}
use lib.ListN.{length, get_or}
use Rattle.scheme.specs.Terms.{Head, con, nt, par, node, Terms, []ᵗ, ◌∷ᵗ◌, countᵗ}
use Rattle.scheme.specs.Types.{Ty, state, arrow, Tys, members, same, takes, domains, off}
use Rattle.scheme.specs.Typing.{Binding, has, leads, head_types}
use Rattle.scheme.specs.Flags.{is_kept, chosen}
use Rattle.scheme.proofs.Exact.{same→≡, same_refl}
use Rattle.scheme.proofs.Heads.{bound_out, bound_in, con_types_out, con_types_in}
use Rattle.scheme.proofs.Lists.{keep_if_out, keep_if_here, keep_if_there, true→T, T→true}
use Rattle.scheme.proofs.Substitution.{has_out, has_in, leads_argument, leads_rest, leads_in}
use Rattle.casefile.specs.Tables.{automaton_of, bindings_of, state_count_spec, transitions_of, targets_at}
use Rattle.casefile.proofs.Plans.{bindings_many}
use Rattle.tables.specs.Facts.{no_binding, binding_at}
use Rattle.term_check.specs.Worlds.{Args, World, Has, total}

-- a type leads to a goal where the arguments have what it asks for and the rest of it is the goal
module _ (heads : Head → List Ty) where
  pub leads_out : (ts : Terms) (υ σ : Ty) → T (leads same heads ts υ σ) → (off (countᵗ ts) υ ≡ some σ) × Args (λ t m. T (has same heads t m)) ts υ
  unfolding leads Args off countᵗ
  leads_out []ᵗ υ σ l = (ap some (same→≡ υ σ l), tt)
  leads_out (t ∷ᵗ ts) (state q) σ l = absurd l
  leads_out (t ∷ᵗ ts) (arrow a r) σ l =
      let (o, args) = leads_out ts r σ (leads_rest same heads t ts a r σ l) in
      (o, (leads_argument same heads t ts a r σ l, args))

  pub leads_back : (ts : Terms) (υ σ : Ty) → off (countᵗ ts) υ ≡ some σ → Args (λ t m. T (has same heads t m)) ts υ → T (leads same heads ts υ σ)
  unfolding leads Args off countᵗ
  leads_back []ᵗ υ σ e args = subst (λ z. T (same υ z)) (let i : υ ≡ σ = cc in i) (same_refl υ)
  leads_back (t ∷ᵗ ts) (state q) σ e args = args
  leads_back (t ∷ᵗ ts) (arrow a r) σ e args = leads_in same heads t ts a r σ args.0 (leads_back ts r σ e args.1)

-- the elements with a flag, in and out
module _ {B : Type 0} (d : B) where
  pub chosen_in : (fs : List ℕ) (bs : List B) (c : ℕ) → c < length bs → is_kept (get_or fs c 0) ≡ true → Memᴰ (get_or bs c d) (chosen fs bs)
  unfolding chosen is_kept
  chosen_in fs [] c h k = absurd (omega arith)
  chosen_in [] (b ∷ bs) zero h k = absurd (true≢false (sym k))
  chosen_in [] (b ∷ bs) (suc c) h k = absurd (true≢false (sym k))
  chosen_in (f ∷ fs) (b ∷ bs) zero h k = keep_if_here (chosen fs bs) (is_kept f) refl (true→T k)
  chosen_in (f ∷ fs) (b ∷ bs) (suc c) h k = keep_if_there b (is_kept f) (chosen_in fs bs c (le_of_suc-le-suc h) k)

  pub chosen_out : (fs : List ℕ) (bs : List B) (b : B) → Memᴰ b (chosen fs bs) → (c : ℕ) × (c < length bs) × (is_kept (get_or fs c 0) ≡ true) × (get_or bs c d ≡ b)
  unfolding chosen
  chosen_out [] bs b m = absurd (Memᴰ.not-nil m)
  chosen_out (f ∷ fs) [] b m = absurd (Memᴰ.not-nil m)
  chosen_out (f ∷ fs) (x ∷ bs) b m = go (keep_if_out (is_kept f) m) (chosen_out fs bs b)
    where
      Out : List ℕ → List B → Type 0
      Out fs bs = (c : ℕ) × (c < length bs) × (is_kept (get_or fs c 0) ≡ true) × (get_or bs c d ≡ b)

      go : (T (is_kept f) × (b ≡ x)) ⊎ Memᴰ b (chosen fs bs) → (Memᴰ b (chosen fs bs) → Out fs bs) → Out (f ∷ fs) (x ∷ bs)
      go (inl w) ih = (zero, omega arith, T→true (is_kept f) w.0, sym w.1)
      go (inr k) ih = let (c, h, i, e) = ih k in (suc c, omega arith, i, e)

-- the members for a parameter
pub domains_at : (i : ℕ) (τ : Ty) (a : Tys) (r : Ty) → off i τ ≡ some (arrow a r) → get_or (domains τ) i [] ≡ members a
unfolding domains off
domains_at zero (state q) a r e = let z : ◌≡◌ {A = ℕ} 0 1 = cc in absurd (omega arith)
domains_at zero (arrow b s) a r e = ap members (let i : b ≡ a = cc in i)
domains_at (suc i) (state q) a r e = let z : ◌≡◌ {A = ℕ} 0 1 = cc in absurd (omega arith)
domains_at (suc i) (arrow b s) a r e = domains_at i s a r e

pub domains_out : (i : ℕ) (τ υ : Ty) → Memᴰ υ (get_or (domains τ) i []) → (a : Tys) × (r : Ty) × (off i τ ≡ some (arrow a r)) × Memᴰ υ (members a)
unfolding domains off
domains_out zero (state q) υ m = absurd (Memᴰ.not-nil m)
domains_out zero (arrow a r) υ m = (a, r, refl, m)
domains_out (suc i) (state q) υ m = absurd (Memᴰ.not-nil m)
domains_out (suc i) (arrow a r) υ m = domains_out i r υ m

-- the terms of a world, by their heads
module _ (w : World) (flags : List ℕ) (ts : Terms) (σ : Ty) where
  abbrev heads : Head → List Ty
  heads = head_types (automaton_of w.rs) (chosen flags (bindings_of w.rs)) (domains w.τ)

  -- a nonterminal
  pub bound_has : (f c : ℕ) → c < total w → is_kept (get_or flags c 0) ≡ true → (binding_at w.rs c).nonterminal ≡ f → off (countᵗ ts) (binding_at w.rs c).type ≡ some σ → Args (Has w flags) ts (binding_at w.rs c).type → Has w flags (node (nt f) ts) σ
  unfolding head_types
  bound_has f c h k e o args =
      let m = bound_in (chosen_in no_binding flags (bindings_of w.rs) c (omega (arith, bindings_many w.rs)) k) in
      has_in same heads {h = nt f} (subst (λ g. Memᴰ (binding_at w.rs c).type (heads (nt g))) e m) ts σ (leads_back heads ts (binding_at w.rs c).type σ o args)

  pub bound_had : (f : ℕ) → Has w flags (node (nt f) ts) σ
      → (c : ℕ) × (c < total w) × (is_kept (get_or flags c 0) ≡ true) × ((binding_at w.rs c).nonterminal ≡ f) × (off (countᵗ ts) (binding_at w.rs c).type ≡ some σ) × Args (Has w flags) ts (binding_at w.rs c).type
  unfolding head_types
  bound_had f l =
      let (υ, m, k) = has_out same heads (nt f) ts σ l in
      let (b, mb, ef, eυ) = bound_out (chosen flags (bindings_of w.rs)) f m in
      let (c, h, i, e) = chosen_out no_binding flags (bindings_of w.rs) b mb in
      let (o, args) = leads_out heads ts υ σ k in
      let g : υ ≡ (binding_at w.rs c).type = eυ ∙ ap (λ (z : Binding). z.type) (sym e) in
      (c, omega (arith, bindings_many w.rs), i, ap (λ (z : Binding). z.nonterminal) e ∙ ef, subst (λ z. off (countᵗ ts) z ≡ some σ) g o, subst (Args (Has w flags) ts) g args)

  -- a parameter
  pub given_has : (i : ℕ) (a : Tys) (r υ : Ty) → off i w.τ ≡ some (arrow a r) → Memᴰ υ (members a) → off (countᵗ ts) υ ≡ some σ → Args (Has w flags) ts υ → Has w flags (node (par i) ts) σ
  unfolding head_types
  given_has i a r υ e m o args = has_in same heads {h = par i} (subst (Memᴰ υ) (sym (domains_at i w.τ a r e)) m) ts σ (leads_back heads ts υ σ o args)

  pub given_had : (i : ℕ) → Has w flags (node (par i) ts) σ
      → (a : Tys) × (r : Ty) × (υ : Ty) × (off i w.τ ≡ some (arrow a r)) × Memᴰ υ (members a) × (off (countᵗ ts) υ ≡ some σ) × Args (Has w flags) ts υ
  unfolding head_types
  given_had i l =
      let (υ, m, k) = has_out same heads (par i) ts σ l in
      let (a, r, e, n) = domains_out i w.τ υ m in
      let (o, args) = leads_out heads ts υ σ k in
      (a, r, υ, e, n, o, args)

  -- a constructor
  pub built_has : (c q : ℕ) (qs : List ℕ) → q < state_count_spec w.rs → targets_at (transitions_of w.rs) q c ≡ some qs → off (countᵗ ts) (takes qs q) ≡ some σ → Args (Has w flags) ts (takes qs q) → Has w flags (node (con c) ts) σ
  unfolding head_types automaton_of
  built_has c q qs h e o args = has_in same heads {h = con c} (con_types_in (targets_at (transitions_of w.rs)) (state_count_spec w.rs) q c qs h e) ts σ (leads_back heads ts (takes qs q) σ o args)

  pub built_had : (c : ℕ) → Has w flags (node (con c) ts) σ
      → (q : ℕ) × (qs : List ℕ) × (targets_at (transitions_of w.rs) q c ≡ some qs) × (off (countᵗ ts) (takes qs q) ≡ some σ) × Args (Has w flags) ts (takes qs q)
  unfolding head_types automaton_of
  built_had c l =
      let (υ, m, k) = has_out same heads (con c) ts σ l in
      let (q, qs, h, e, g) = con_types_out (targets_at (transitions_of w.rs)) (state_count_spec w.rs) c m in
      let (o, args) = leads_out heads ts υ σ k in
      (q, qs, e, subst (λ z. off (countᵗ ts) z ≡ some σ) g o, subst (Args (Has w flags) ts) g args)

-- The arguments of a head, one after another, against the type of the head.
use Prim.Native.Nat.{ℕ, zero, suc, ◌+◌, ◌-◌, ◌<◌, ◌≤◌}
use native.Mathlib.Omega.{arith}
use mathlib.Core.Path.{◌≡◌, refl, sym, ap, subst, ◌∙◌}
use mathlib.Core.Bool.{Bool, true, false, true≢false}
use mathlib.Core.List.{List}
use mathlib.Core.Option.{some}
use Rattle.scheme.specs.Terms.{Term, node, Terms, []ᵗ, ◌∷ᵗ◌, countᵗ, nodes}
use Rattle.scheme.specs.Types.{Ty, state, arrow, Tys, off}
use Rattle.tables.specs.reading.Cells.{node_at, result_of}
use Rattle.tables.specs.Facts.{Goal, At, AllAt}
use Rattle.term_check.specs.notes.Notes.{base_in}
use Rattle.term_check.specs.Worlds.{Args, Case, World, Has, Setting, Ready, Includes, ChecksMembers, ChecksArgs}
use Rattle.tables.proofs.nodes.Places.{first_at, others_at}
use Rattle.term_check.proofs.Places.{nodes_some, no_terms}
use Rattle.term_check.proofs.check.Keeping.{includes_less, ready_on, keeps_all, keeps_on}

-- the node of a term
pub node_there : (x : Case) (w : World) → Setting x w → (i : ℕ) (t : Term) → At w.ns i t → (node_at x.t (base_in x.test) i).next ≡ i + nodes t
node_there x w s i (node h ts) a = (s.nodes i h ts a).behind

-- terms that are more than none
pub data Several (n : ℕ) (ts : Terms) : Type 0 where
  several : (t : Term) (rest : Terms) → ts ≡ t ∷ᵗ rest → countᵗ rest ≡ n - 1 → Several n ts

pub some_terms : (n : ℕ) (ts : Terms) → countᵗ ts ≡ n → 0 < n → Several n ts
unfolding countᵗ
some_terms n []ᵗ e l = absurd (omega arith)
some_terms n (t ∷ᵗ ts) e l = several t ts refl (omega arith)

-- the next argument stands behind this one
module _ (x : Case) (w : World) (s : Setting x w) (at next : ℕ) (is_next : next ≡ (node_at x.t (base_in x.test) at).next) where
  pub next_at : (t : Term) (ts : Terms) → AllAt w.ns at (t ∷ᵗ ts) → next ≡ at + nodes t
  next_at t ts al = is_next ∙ node_there x w s at t (first_at w.ns at t ts al)

  pub next_on : (t : Term) (ts : Terms) → AllAt w.ns at (t ∷ᵗ ts) → AllAt w.ns next ts
  next_on t ts al = subst (λ k. AllAt w.ns k ts) (sym (next_at t ts al)) (others_at w.ns at t ts al)

  pub stuck : next ≤ at → {n : ℕ} (ts : Terms) → AllAt w.ns at ts → Several n ts → ⊥
  stuck l ts al (several t rest e f) =
      let p = next_at t rest (subst (AllAt w.ns at) e al) in
      let k = nodes_some t in
      omega arith

-- a type that has an arrow for an argument
pub data Arrow (n : ℕ) (υ ρ : Ty) : Type 0 where
  an_arrow : (a : Tys) (r : Ty) → υ ≡ arrow a r → off (n - 1) r ≡ some ρ → Arrow n υ ρ

pub arrow_there : (n : ℕ) (υ ρ : Ty) → off n υ ≡ some ρ → 0 < n → Arrow n υ ρ
unfolding off
arrow_there zero υ ρ e l = absurd (omega arith)
arrow_there (suc n) (state q) ρ e l = let z : ◌≡◌ {A = ℕ} 0 1 = cc in absurd (omega arith)
arrow_there (suc n) (arrow a r) ρ e l = an_arrow a r refl (ap (λ k. off k r) (let k : suc n - 1 ≡ n = omega arith in k) ∙ e)

module _ (x : Case) (memo users : List ℕ) (at n g : ℕ) where
  pub args_none : n ≤ 0 → ChecksArgs x memo users at n g memo users true
  unfolding Args
  args_none l =
      record {
        keeps = keeps_all x memo users;
        yes = λ y w r flags inc ts al c υ ρ go o. subst (λ z. Args (Has w flags) z υ) (sym (no_terms ts (let e : countᵗ ts ≡ 0 = omega arith in e))) tt;
        no = λ y. absurd (true≢false y);
      }

  module _ (some_left : 0 < n) (next : ℕ) (is_next : next ≡ (node_at x.t (base_in x.test) at).next) where
    pub args_stuck : next ≤ at → ChecksArgs x memo users at n g memo users false
    args_stuck l =
        record {
          keeps = keeps_all x memo users;
          yes = λ y. absurd (true≢false (sym y));
          no = λ y w r ts al c υ ρ go o h. stuck x w r.setting at next is_next l ts al (some_terms n ts c some_left);
        }

    module _ (memo' users' : List ℕ) (b : Bool) (told : ChecksMembers x memo users at g memo' users' b) where
      pub args_lack : b ≡ false → ChecksArgs x memo users at n g memo' users' false
      unfolding Args
      args_lack eb =
          record {
            keeps = told.keeps;
            yes = λ y. absurd (true≢false (sym y));
            no = λ y w r ts al c υ ρ go o h. lack w r ts al υ ρ go h (some_terms n ts c some_left) (arrow_there n υ ρ o some_left);
          }
        where
          lack : (w : World) → Ready x w memo users → (ts : Terms) → AllAt w.ns at ts → (υ ρ : Ty) → Goal w.rs g υ → Args (Has w w.kept) ts υ → Several n ts → Arrow n υ ρ → ⊥
          lack w r ts al υ ρ go h (several t rest e f) (an_arrow a s i o) =
              let k : Args (Has w w.kept) (t ∷ᵗ rest) (arrow a s) = subst (Args (Has w w.kept) (t ∷ᵗ rest)) i (subst (λ z. Args (Has w w.kept) z υ) e h) in
              told.no eb w r a s (subst (Goal w.rs g) i go) t (first_at w.ns at t rest (subst (AllAt w.ns at) e al)) k.0

      module _ (eb : b ≡ true) (g' : ℕ) (is-g : g' ≡ result_of x.t g) (m : ℕ) (is-m : m ≡ n - 1) (memo'' users'' : List ℕ) (d : Bool) (told-behind : ChecksArgs x memo' users' next m g' memo'' users'' d) where
        rest-told : ChecksArgs x memo' users' next (n - 1) g' memo'' users'' d
        rest-told = subst (λ k. ChecksArgs x memo' users' next k g' memo'' users'' d) is-m told-behind

        pub args_rest : ChecksArgs x memo users at n g memo'' users'' d
        unfolding Args
        args_rest =
            record {
              keeps = keeps_on told.keeps rest-told.keeps;
              yes = λ y w r flags inc ts al c υ ρ go o. holds_all y w r flags inc ts al υ ρ go (some_terms n ts c some_left) (arrow_there n υ ρ o some_left);
              no = λ y w r ts al c υ ρ go o h. lack y w r ts al υ ρ go h (some_terms n ts c some_left) (arrow_there n υ ρ o some_left);
            }
          where
            result_goal : (w : World) → Setting x w → (a : Tys) (s : Ty) → Goal w.rs g (arrow a s) → Goal w.rs g' s
            result_goal w s a r go = subst (λ k. Goal w.rs k r) (sym is-g) (s.types.arrow_row g a r go).result

            holds_all : d ≡ true → (w : World) → Ready x w memo users → (flags : List ℕ) → Includes x w users'' flags → (ts : Terms) → AllAt w.ns at ts → (υ ρ : Ty) → Goal w.rs g υ → Several n ts → Arrow n υ ρ → Args (Has w flags) ts υ
            holds_all y w r flags inc ts al υ ρ go (several t rest e f) (an_arrow a s i o) =
                let s₁ = r.setting in
                let al' = subst (AllAt w.ns at) e al in
                let go' = subst (Goal w.rs g) i go in
                let first = first_at w.ns at t rest al' in
                let less = includes_less x w users' users'' rest-told.keeps.grows flags inc in
                let both : Args (Has w flags) (t ∷ᵗ rest) (arrow a s) = (
                  λ m k. told.yes eb w r a s go' m k flags less t first,
                  rest-told.yes y w (ready_on told.keeps r) flags inc rest (next_on x w s₁ at next is_next t rest al') f s ρ (result_goal w s₁ a s go') o,
                ) in
                subst (λ z. Args (Has w flags) z υ) (sym e) (subst (Args (Has w flags) (t ∷ᵗ rest)) (sym i) both)

            lack : d ≡ false → (w : World) → Ready x w memo users → (ts : Terms) → AllAt w.ns at ts → (υ ρ : Ty) → Goal w.rs g υ → Args (Has w w.kept) ts υ → Several n ts → Arrow n υ ρ → ⊥
            lack y w r ts al υ ρ go h (several t rest e f) (an_arrow a s i o) =
                let s₁ = r.setting in
                let al' = subst (AllAt w.ns at) e al in
                let k : Args (Has w w.kept) (t ∷ᵗ rest) (arrow a s) = subst (Args (Has w w.kept) (t ∷ᵗ rest)) i (subst (λ z. Args (Has w w.kept) z υ) e h) in
                rest-told.no y w (ready_on told.keeps r) rest (next_on x w s₁ at next is_next t rest al') f s ρ (result_goal w s₁ a s (subst (Goal w.rs g) i go)) o k.1

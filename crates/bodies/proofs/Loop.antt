-- The arguments of a node, one after another: what is left of them leads to the result of all of them.
use Prim.Native.Nat.{ℕ, zero, suc, ◌+◌, ◌-◌, ◌<◌, ◌≤◌, max}
use mathlib.Core.Path.{◌≡◌, refl, sym, ap, subst, ◌∙◌}
use mathlib.Core.List.{List}
use mathlib.Core.Option.{some}
use native.Mathlib.Omega.{arith}
use Rattle.std.specs.Prelude.{Option, Some, None}
use lib.ListN.{get_or}
use Rattle.scheme.specs.Sorts.{Sort, ◌⇒◌}
use Rattle.scheme.specs.Sorting.{sort_after}
use Rattle.scheme.specs.Terms.{Head, Terms, []ᵗ, ◌∷ᵗ◌, countᵗ, nodes, nodes_all}
use Rattle.scheme.specs.Prefix.{takeᵗ, depth, deepest}
use Rattle.scheme.proofs.Sorting.{after_fit, after_out}
use Rattle.sorts.specs.codes.Sorted.{Code, Off, misfit, off}
use Rattle.bodies.specs.declared.Heads.{Heads}
use Rattle.bodies.specs.Bodies.{CodedBy, AppliedBy, Held, Fits, ArgumentsFit}
use Rattle.bodies.specs.declared.Subterm.{Subterm}

module _ (hs : Head → Sort) where
  module _ (sorts : List Sort) (ends codes depths : List ℕ) (n : ℕ) where
    -- `left` of the terms us behind node `end` lead from sort s to the result of k of the terms ts behind node `at`
    pub record Going (ts us : Terms) (s₀ s : Sort) (at k end left sort deep : ℕ) : Type 0 where
      pub held : Held hs sorts ends codes depths n us end
      pub code : Code sorts sort s
      pub enough : left ≤ countᵗ us → k ≤ countᵗ ts
      pub needed : k ≤ countᵗ ts → left ≤ countᵗ us
      pub end_is : at + nodes_all (takeᵗ k ts) ≡ end + nodes_all (takeᵗ left us)
      pub rest_is : sort_after hs (takeᵗ k ts) s₀ ≡ sort_after hs (takeᵗ left us) s
      pub deep_is : deepest (takeᵗ k ts) ≡ max deep (deepest (takeᵗ left us))

    pub going_start : (ts : Terms) (s : Sort) (at k head : ℕ) → Held hs sorts ends codes depths n ts at → Code sorts head s → Going ts ts s s at k at k head 0
    going_start ts s at k head h c = record { held = h; code = c; enough = λ x. x; needed = λ x. x; end_is = refl; rest_is = refl; deep_is = omega arith }

    module _ {ts : Terms} {s₀ : Sort} {at k : ℕ} where
      -- nothing is left: it is their result
      pub going_end : (us : Terms) (s : Sort) (left : ℕ) (r : Subterm) → Going ts us s₀ s at k r.end left r.sort r.deep → left ≡ 0 → Fits hs sorts ts s₀ at k r
      unfolding takeᵗ sort_after nodes_all deepest
      going_end us s zero r g z =
          let e = g.end_is in
          let d = g.deep_is in
          record { enough = g.enough (omega arith); end_is = omega arith; rest = s; rest_is = g.rest_is; code = g.code; deep_is = omega arith }
      going_end us s (suc l) r g z = absurd (omega arith)

      -- arguments are left, and no node
      pub going_short : (us : Terms) (s : Sort) (end left sort deep : ℕ) → Going ts us s₀ s at k end left sort deep → 0 < left → n ≤ end → k ≤ countᵗ ts → ⊥
      unfolding Held countᵗ
      going_short []ᵗ s end left sort deep g p h e = let q = g.needed e in omega arith
      going_short (t ∷ᵗ us) s end left sort deep g p h e = let q = g.held.0 in omega arith

      -- an argument does not fit
      pub going_misfit : (us : Terms) (s : Sort) (end left sort deep : ℕ) (r : Option ℕ) → Going ts us s₀ s at k end left sort deep → 0 < left → r ≡ None
          → ((t : Sort) → Code sorts (get_or codes end 0) t → Off sorts s t r) → k ≤ countᵗ ts → (x : Sort) → sort_after hs (takeᵗ k ts) s₀ ≡ some x → ⊥
      unfolding Held countᵗ takeᵗ
      going_misfit []ᵗ s end left sort deep r g p er f e x q = let v = g.needed e in omega arith
      going_misfit (t ∷ᵗ us) s end zero sort deep r g p er f e x q = omega arith
      going_misfit (t ∷ᵗ us) s end (suc l) sort deep r g p er f e x q =
          let (a, b, es, ea, eb) = after_out hs t (takeᵗ l us) s x (sym g.rest_is ∙ q) in
          let h = g.held.2 in
          let et : h.0 ≡ a = (let u = h.1 in cc) in
          go (f h.0 h.2) b (es ∙ ap (λ y. y ⇒ b) (sym et))
        where
          go : {t' : Sort} → Off sorts s t' r → (b : Sort) → s ≡ t' ⇒ b → ⊥
          go (misfit z m) b y = m b y
          go (off code z l b' y c) b y' = cc

      -- it fits: one argument on
      pub going_next : (us : Terms) (s : Sort) (end left sort deep r end' deep' : ℕ) (found : Option ℕ) → Going ts us s₀ s at k end left sort deep → 0 < left → end < n → found ≡ Some r
          → ((t : Sort) → Code sorts (get_or codes end 0) t → Off sorts s t found) → end' ≡ get_or ends end 0 → deep' ≡ max deep (get_or depths end 0)
          → (us' : Terms) × (s' : Sort) × Going ts us' s₀ s' at k end' (left - 1) r deep'
      unfolding Held countᵗ takeᵗ nodes_all deepest
      going_next []ᵗ s end left sort deep r end' deep' found g p h is f ee ed = absurd (let q = g.held in omega arith)
      going_next (t ∷ᵗ us) s end zero sort deep r end' deep' found g p h is f ee ed = absurd (omega arith)
      going_next (t ∷ᵗ us) s end (suc l) sort deep r end' deep' found g p h is f ee ed = let el : suc l - 1 ≡ l = omega arith in rw el (go (f g.held.2.0 g.held.2.2))
        where
          go : Off sorts s g.held.2.0 found → (us' : Terms) × (s' : Sort) × Going ts us' s₀ s' at k end' l r deep'
          go (misfit z m) = absurd (cc)
          go (off code z small b es c) =
              let same : code ≡ r = cc in
              let h = g.held in
              let ee' : end' ≡ end + nodes t = ee ∙ h.1 in
              let ed' : deep' ≡ max deep (depth t) = ed ∙ ap (max deep) h.3 in
              let e = g.end_is in
              let d = g.deep_is in (
                us,
                b,
                record {
                  held = rw ee' h.5;
                  code = subst (λ x. Code sorts x b) same c;
                  enough = λ x. g.enough (omega arith);
                  needed = λ x. let y = g.needed x in omega arith;
                  end_is = omega arith;
                  rest_is = g.rest_is ∙ ap (sort_after hs (t ∷ᵗ takeᵗ l us)) es ∙ after_fit hs t (takeᵗ l us) h.2.0 b h.2.1;
                  deep_is = omega arith;
                },
              )

-- the depth of the first argument is that of all so far
pub first_deep : {x d : ℕ} → x ≡ d → x ≡ max 0 d
first_deep e = omega arith

-- whatever terms the tables hold behind node `at`, what is left leads to the result of k of them
pub record Leads (heads : Heads) (ends codes depths : List ℕ) (n at k head end left sort deep : ℕ) : Type 0 where
  pub go : (hs : Head → Sort) (sorts : List Sort) (ts : Terms) (s : Sort) → CodedBy sorts heads → Held hs sorts ends codes depths n ts at → Code sorts head s
      → (us : Terms) × (s' : Sort) × Going hs sorts ends codes depths n ts us s s' at k end left sort deep

module _ {heads : Heads} {ends codes depths : List ℕ} {n at k head : ℕ} where
  pub leads_start : Leads heads ends codes depths n at k head at k head 0
  leads_start = record { go = λ hs sorts ts s w h c. (ts, s, going_start hs sorts ends codes depths n ts s at k head h c) }

  module _ {end left sort deep : ℕ} (l : Leads heads ends codes depths n at k head end left sort deep) where
    pub leads_end : left ≡ 0 → end < 65536 → sort < 65536 → ArgumentsFit heads ends codes depths n at k head (Some (record { end = end; sort = sort; deep = deep }))
    leads_end z he hs = record {
      fits = λ hs sorts ts s w h c a e. let (us, s', g) = l.go hs sorts ts s w h c in
          let same : record { end = end; sort = sort; deep = deep } ≡ a = cc in
          subst (Fits hs sorts ts s at k) same (going_end hs sorts ends codes depths n us s' left (record { end = end; sort = sort; deep = deep }) g z);
      misfit = λ hs sorts ts s w h c e. absurd (cc);
      end_small = λ a e. let same : record { end = end; sort = sort; deep = deep } ≡ a = cc in subst (λ (x : Subterm). x.end < 65536) same he;
      sort_small = λ a e. let same : record { end = end; sort = sort; deep = deep } ≡ a = cc in subst (λ (x : Subterm). x.sort < 65536) same hs;
    }

    module _ (p : 0 < left) where
      pub leads_short : n ≤ end → ArgumentsFit heads ends codes depths n at k head None
      leads_short e = record {
        fits = λ hs sorts ts s w h c a f. absurd (cc);
        misfit = λ hs sorts ts s w h c f m x q. let (us, s', g) = l.go hs sorts ts s w h c in going_short hs sorts ends codes depths n us s' end left sort deep g p e m;
        end_small = λ a f. absurd (cc);
        sort_small = λ a f. absurd (cc);
      }

      pub leads_misfit : (argument : ℕ) (found : Option ℕ) → AppliedBy heads sort argument found → argument ≡ get_or codes end 0 → found ≡ None → ArgumentsFit heads ends codes depths n at k head None
      leads_misfit argument found a ea e = record {
        fits = λ hs sorts ts s w h c a f. absurd (cc);
        misfit = λ hs sorts ts s w h c f m x q. let (us, s', g) = l.go hs sorts ts s w h c in
            going_misfit hs sorts ends codes depths n us s' end left sort deep found g p e (λ t d. a sorts s' t w g.code (rw ea d)) m x q;
        end_small = λ a f. absurd (cc);
        sort_small = λ a f. absurd (cc);
      }

      pub leads_next : (argument sort' end' deep' rest : ℕ) (found : Option ℕ) → end < n → AppliedBy heads sort argument found → argument ≡ get_or codes end 0 → found ≡ Some sort'
          → end' ≡ get_or ends end 0 → deep' ≡ max deep (get_or depths end 0) → rest ≡ left - 1 → Leads heads ends codes depths n at k head end' rest sort' deep'
      leads_next argument sort' end' deep' rest found e a ea is ee ed er = record {
        go = λ hs sorts ts s w h c.
            let (us, s', g) = l.go hs sorts ts s w h c in
            rw er (going_next hs sorts ends codes depths n us s' end left sort deep sort' end' deep' found g p e is (λ t d. a sorts s' t w g.code (rw ea d)) ee ed);
      }

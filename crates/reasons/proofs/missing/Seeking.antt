-- The search among arguments, one after another: while all have what is asked for it comes to the same behind them; the first that lacks
-- a member is where it goes on.
use Prim.Native.Nat.{ℕ, ◌+◌, ◌-◌, ◌/◌, ◌%◌, ◌<◌, ◌≤◌}
use native.Mathlib.Omega.{arith}
use mathlib.Core.Path.{◌≡◌, refl, sym, ap, subst, ◌∙◌}
use mathlib.Core.Bool.{Bool, true, false, not}
use mathlib.Core.List.{List}
use mathlib.Core.Option.{none, some}
use Rattle.std.specs.Prelude.{Some, None}
use Rattle.scheme.specs.Lists.{first_of, found_or}
use Rattle.scheme.specs.Terms.{Term, Terms, ◌∷ᵗ◌, countᵗ, nodes}
use Rattle.scheme.specs.Types.{Ty, state, arrow, Tys, []ʸ, ◌∷ʸ◌, members, same, takes, off}
use Rattle.scheme.specs.Typing.{has}
use Rattle.scheme.specs.Reasons.{Reason, lacking}
use Rattle.scheme.proofs.Lists.{not_out}
use Rattle.scheme.proofs.Reasons.{first_none, first_some, first_true}
use Rattle.index.specs.layout.Layout.{max_states}
use Rattle.tables.specs.reading.Cells.{result_of, node_at}
use Rattle.tables.specs.Facts.{Goal, of_state_law, AllAt}
use Rattle.tables.proofs.nodes.Places.{first_at}
use Rattle.term_check.specs.notes.Notes.{base_in}
use Rattle.term_check.specs.Worlds.{Args, Case, World, Has, Keeps, Targets, ChecksTerm}
use Rattle.term_check.proofs.Places.{no_terms}
use Rattle.term_check.proofs.check.Keeping.{keeps_all, keeps_on, ready_on}
use Rattle.term_check.proofs.check.Arguments.{Several, several, some_terms, next_at, next_on, Arrow, an_arrow, arrow_there}
use Rattle.term_check.proofs.check.Targets.{Split, split, targets_split}
use Rattle.reasons.specs.Searching.{heads_of, reason_at, ComesTo}
use Rattle.reasons.specs.missing.Missing.{first_lacked, LacksMember, ArgsLack, LacksArgument, TargetsLack, LacksTarget}
use Rattle.reasons.proofs.missing.Asking.{not_had, not_lacking, not_lacked}

-- the members of a set of one
module _ (w : World) (t : Term) (p : ℕ) where
  one_lacked : (Has w w.kept t (state p) → ⊥) → first_lacked w t (state p ∷ʸ []ʸ) ≡ some (state p)
  unfolding members first_of
  one_lacked h = rw (not_lacked (has same (heads_of w) t (state p)) h) refl

  one_had : Has w w.kept t (state p) → first_lacked w t (state p ∷ʸ []ʸ) ≡ none
  unfolding members first_of
  one_had h = rw (not_had (has same (heads_of w) t (state p)) h) refl

-- the arguments ts from node `here` on, of which one lacks what τ asks for; the search r among all from node `first` on comes to the same
pub record Sought (w : World) (r : Reason) (first here left : ℕ) (ts : Terms) (τ : Ty) : Type 0 where
  pub all : AllAt w.ns here ts
  pub count : countᵗ ts ≡ left
  pub lack : Args (Has w w.kept) ts τ → ⊥
  pub same_reason : r ≡ lacking same (heads_of w) here ts τ
  pub on : first ≤ here

module _ {w : World} {r : Reason} {first here left : ℕ} {ts : Terms} {τ : Ty} (s : Sought w r first here left ts τ) where
  -- there is one
  pub sought_none : left ≤ 0 → ⊥
  unfolding Args
  sought_none l = let c = s.count in s.lack (subst (λ z. Args (Has w w.kept) z τ) (sym (no_terms ts (let e : countᵗ ts ≡ 0 = omega arith in e))) tt)

  module _ (t : Term) (rest : Terms) (et : ts ≡ t ∷ᵗ rest) (a : Tys) (ρ : Ty) (eτ : τ ≡ arrow a ρ) where
    here_is : r ≡ lacking same (heads_of w) here (t ∷ᵗ rest) (arrow a ρ)
    here_is = s.same_reason ∙ ap (λ z. lacking same (heads_of w) here z τ) et ∙ ap (lacking same (heads_of w) here (t ∷ᵗ rest)) eτ

    all_here : AllAt w.ns here (t ∷ᵗ rest)
    all_here = subst (AllAt w.ns here) et s.all

    -- the first has all its members
    pub sought_next : first_lacked w t a ≡ none → (next : ℕ) → next ≡ here + nodes t → AllAt w.ns next rest → countᵗ rest ≡ left - 1 → Sought w r first next (left - 1) rest ρ
    unfolding Args lacking found_or
    sought_next e next en al c =
        record {
          all = al;
          count = c;
          lack = λ args. s.lack (subst (λ z. Args (Has w w.kept) z τ) (sym et) (subst (Args (Has w w.kept) (t ∷ᵗ rest)) (sym eτ) (λ m k. not_lacking (has same (heads_of w) t m) (first_none (λ m. not (has same (heads_of w) t m)) (members a) e m k), args)));
          same_reason = here_is ∙ ap (λ o. found_or o (lacking same (heads_of w) (here + nodes t) rest ρ) (λ m. reason_at w here t m)) e ∙ ap (λ k. lacking same (heads_of w) k rest ρ) (sym en);
          on = let o = s.on in omega arith;
        }

    -- the first lacks a member
    pub sought_comes : (m : Ty) → first_lacked w t a ≡ some m → (g : ℕ) → Goal w.rs g m → ComesTo w r here g
    unfolding lacking found_or
    sought_comes m e g gm =
        record {
          term = t;
          type = m;
          lacks =
              record {
                here = first_at w.ns here t rest all_here;
                goal = gm;
                lacked = not_out (has same (heads_of w) t m) (first_true (first_some (λ m. not (has same (heads_of w) t m)) (members a) m e)).0;
              };
          same_reason = here_is ∙ ap (λ o. found_or o (lacking same (heads_of w) (here + nodes t) rest ρ) (λ m. reason_at w here t m)) e;
        }

-- Arguments against a type.
module _ (x : Case) (memo users : List ℕ) (first n ty : ℕ) where
  -- what a type asks of the arguments from node `here` on
  pub record Still (w : World) (r : Reason) (σ : Ty) (here rest left : ℕ) : Type 0 where
    pub terms : Terms
    pub type : Ty
    pub goal : Goal w.rs rest type
    pub off_left : off left type ≡ some σ
    pub sought : Sought w r first here left terms type

  pub record Seeking (memo' users' : List ℕ) (here rest left : ℕ) : Type 0 where
    pub keeps : Keeps x memo users memo' users'
    pub still : (w : World) (ts : Terms) (τ σ : Ty) → ArgsLack x memo users first n ty w ts τ σ → Still w (lacking same (heads_of w) first ts τ) σ here rest left

  pub seek_start : Seeking memo users first ty n
  seek_start =
      record {
        keeps = keeps_all x memo users;
        still = λ w ts τ σ a. record { terms = ts; type = τ; goal = a.goal; off_left = a.rest; sought = record { all = a.all; count = a.count; lack = a.lack; same_reason = refl; on = omega arith } };
      }

  module _ {memo' users' : List ℕ} {here rest left : ℕ} (k : Seeking memo' users' here rest left) where
    pub seek_end : left ≤ 0 → LacksArgument x memo users first n ty memo' users' None
    seek_end l = record { keeps = k.keeps; comes = λ w ts τ σ a. sought_none (k.still w ts τ σ a).sought l }

    module _ (some_left : 0 < left) (memo'' users'' : List ℕ) where
      pub seek_found : (g : ℕ) → LacksMember x memo' users' here rest memo'' users'' (Some g) → LacksArgument x memo users first n ty memo'' users'' (Some (record { node = here; goal = g }))
      seek_found g member =
          record {
            keeps = keeps_on k.keeps member.keeps;
            comes = λ w ts τ σ a.
                let s = k.still w ts τ σ a in
                (s.sought.on, by w ts τ σ a s (some_terms left s.terms s.sought.count some_left) (arrow_there left s.type σ s.off_left some_left));
          }
        where
          by : (w : World) (ts : Terms) (τ σ : Ty) → ArgsLack x memo users first n ty w ts τ σ → (s : Still w (lacking same (heads_of w) first ts τ) σ here rest left) → Several left s.terms → Arrow left s.type σ
              → ComesTo w (lacking same (heads_of w) first ts τ) here g
          by w ts τ σ a s (several t us et c) (an_arrow b ρ eτ o) =
              let (m, gm, e) = member.lacks w (ready_on k.keeps a.ready) b ρ (subst (Goal w.rs rest) eτ s.goal) t (first_at w.ns here t us (subst (AllAt w.ns here) et s.sought.all)) in
              sought_comes s.sought t us et b ρ eτ m e g gm

      pub seek_next : LacksMember x memo' users' here rest memo'' users'' None → (next : ℕ) → next ≡ (node_at x.t (base_in x.test) here).next → (rest' : ℕ) → rest' ≡ result_of x.t rest → (left' : ℕ) → left' ≡ left - 1 → Seeking memo'' users'' next rest' left'
      seek_next member next en rest' er left' el = subst (Seeking memo'' users'' next rest') (sym el)
          (record {
            keeps = keeps_on k.keeps member.keeps;
            still = λ w ts τ σ a. let s = k.still w ts τ σ a in by w ts τ σ a s (some_terms left s.terms s.sought.count some_left) (arrow_there left s.type σ s.off_left some_left);
          })
        where
          by : (w : World) (ts : Terms) (τ σ : Ty) → ArgsLack x memo users first n ty w ts τ σ → (s : Still w (lacking same (heads_of w) first ts τ) σ here rest left) → Several left s.terms → Arrow left s.type σ
              → Still w (lacking same (heads_of w) first ts τ) σ next rest' (left - 1)
          by w ts τ σ a s (several t us et c) (an_arrow b ρ eτ o) =
              let ready = ready_on k.keeps a.ready in
              let gb : Goal w.rs rest (arrow b ρ) = subst (Goal w.rs rest) eτ s.goal in
              let al = subst (AllAt w.ns here) et s.sought.all in
              let none-lacked = member.lacks w ready b ρ gb t (first_at w.ns here t us al) in
              record {
                terms = us;
                type = ρ;
                goal = subst (λ h. Goal w.rs h ρ) (sym er) (ready.setting.types.arrow_row rest b ρ gb).result;
                off_left = o;
                sought = sought_next s.sought t us et b ρ eτ none-lacked next (next_at x w ready.setting here next en t us al) (next_on x w ready.setting here next en t us al) c;
              }

-- Arguments of a constructor against their targets.
module _ (x : Case) (memo users : List ℕ) (first n targets : ℕ) where
  pub record StillTargets (w : World) (r : Reason) (q : ℕ) (here rest left : ℕ) : Type 0 where
    pub terms : Terms
    pub states : List ℕ
    pub are : Targets left rest states
    pub sought : Sought w r first here left terms (takes states q)

  pub record SeekingTargets (memo' users' : List ℕ) (here rest left : ℕ) : Type 0 where
    pub keeps : Keeps x memo users memo' users'
    pub still : (w : World) (ts : Terms) (qs : List ℕ) (q : ℕ) → TargetsLack x memo users first n targets w ts qs q → StillTargets w (lacking same (heads_of w) first ts (takes qs q)) q here rest left

  module _ {memo' users' : List ℕ} {here rest left : ℕ} (k : SeekingTargets memo' users' here rest left) where
    pub targets_end : left ≤ 0 → LacksTarget x memo users first n targets memo' users' None
    targets_end l = record { keeps = k.keeps; comes = λ w ts qs q a. sought_none (k.still w ts qs q a).sought l }

    module _ (some_left : 0 < left) (memo'' users'' : List ℕ) (b : Bool) (told : ChecksTerm x memo' users' here (rest % 16) memo'' users'' b) where
      -- the first argument and its target
      goal_is : (w : World) (p : ℕ) → rest % 16 ≡ p → p < max_states → Goal w.rs (rest % 16) (state p)
      goal_is w p e h = of_state_law p h e refl

      pub targets_found : b ≡ false → LacksTarget x memo users first n targets memo'' users'' (Some (record { node = here; goal = rest % 16 }))
      unfolding takes
      targets_found e =
          record {
            keeps = keeps_on k.keeps told.keeps;
            comes = λ w ts qs q a.
                let s = k.still w ts qs q a in
                (s.sought.on, by w ts qs q a s (some_terms left s.terms s.sought.count some_left) (targets_split left rest s.states some_left s.are));
          }
        where
          by : (w : World) (ts : Terms) (qs : List ℕ) (q : ℕ) → TargetsLack x memo users first n targets w ts qs q → (s : StillTargets w (lacking same (heads_of w) first ts (takes qs q)) q here rest left) → Several left s.terms → Split left rest s.states
              → ComesTo w (lacking same (heads_of w) first ts (takes qs q)) here (rest % 16)
          by w ts qs q a s (several t us et c) (split p ps ep is small are) =
              let al = subst (AllAt w.ns here) et s.sought.all in
              let no-p = told.no e w (ready_on k.keeps a.ready) t (first_at w.ns here t us al) (state p) (goal_is w p is small) in
              sought_comes s.sought t us et (state p ∷ʸ []ʸ) (takes ps q) (ap (λ z. takes z q) ep) (state p) (one_lacked w t p no-p) (rest % 16) (goal_is w p is small)

      pub targets_next : b ≡ true → (next : ℕ) → next ≡ (node_at x.t (base_in x.test) here).next → (left' : ℕ) → left' ≡ left - 1 → SeekingTargets memo'' users'' next (rest / 16) left'
      unfolding takes
      targets_next e next en left' el = subst (SeekingTargets memo'' users'' next (rest / 16)) (sym el)
          (record {
            keeps = keeps_on k.keeps told.keeps;
            still = λ w ts qs q a. let s = k.still w ts qs q a in by w ts qs q a s (some_terms left s.terms s.sought.count some_left) (targets_split left rest s.states some_left s.are);
          })
        where
          by : (w : World) (ts : Terms) (qs : List ℕ) (q : ℕ) → TargetsLack x memo users first n targets w ts qs q → (s : StillTargets w (lacking same (heads_of w) first ts (takes qs q)) q here rest left) → Several left s.terms → Split left rest s.states
              → StillTargets w (lacking same (heads_of w) first ts (takes qs q)) q next (rest / 16) (left - 1)
          by w ts qs q a s (several t us et c) (split p ps ep is small are) =
              let ready = ready_on k.keeps a.ready in
              let al = subst (AllAt w.ns here) et s.sought.all in
              let yes-p = told.yes e w ready w.kept (λ d h rests. rests.is_kept_law) t (first_at w.ns here t us al) (state p) (goal_is w p is small) in
              record {
                terms = us;
                states = ps;
                are = are;
                sought = sought_next s.sought t us et (state p ∷ʸ []ʸ) (takes ps q) (ap (λ z. takes z q) ep) (one_had w t p yes-p) next (next_at x w ready.setting here next en t us al) (next_on x w ready.setting here next en t us al) c;
              }

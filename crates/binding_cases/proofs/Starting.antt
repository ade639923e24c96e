-- The start binding among those kept: the table says which is of nonterminal 0, and which type is the state 0.
use Prim.Native.Nat.{ℕ, zero, suc, ◌<◌, ◌≤◌, min}
use native.Mathlib.Omega.{arith}
use native.Mathlib.Decide.{dec_lt}
use native.Mathlib.Nat.{le_of_suc-le-suc}
use mathlib.Core.Path.{◌≡◌, refl, sym, ap, ap₂, subst, ◌∙◌}
use mathlib.Core.Bool.{Bool, true, false, ◌&&◌, ◌||◌}
use mathlib.Core.List.{List, [], ◌∷◌}
use borrow.Author.Tests.{ne_eqb}
use lib.Dec.{eqb}
use lib.ListN.{length, get_or}
use Rattle.std.specs.Bool.{MatchBool}
use Rattle.std.specs.List.{HoldsAt, AllWithin, range_with_len}
use Rattle.std.proofs.lemmas.List.FromFn.{length-range_with_len, get_or-range_with_len}
use Rattle.scheme.specs.Lists.{any, keep_if}
use Rattle.scheme.specs.Types.{Ty, state, same}
use Rattle.scheme.specs.Flags.{is_kept, chosen}
use Rattle.scheme.specs.Acceptance.{is_start}
use Rattle.scheme.proofs.Lists.{and_no}
use Rattle.scheme.proofs.Flags.{kept_byte}
use Rattle.casefile.specs.Fields.{IsField}
use Rattle.casefile.specs.Records.{Record}
use Rattle.casefile.specs.Kinds.{Kind, count}
use Rattle.casefile.specs.Tables.{bindings_of}
use Rattle.casefile.proofs.Plans.{bindings_many}
use Rattle.tables.specs.Facts.{Goal, of_state_law, of_arrow, no_binding, binding_at, TypesAre, BindingsAre}
use Rattle.tables.specs.reading.Cells.{group_of, symbol_of, own_of}
use Rattle.rounds.proofs.shrinking.Counting.{byte_is}
use Rattle.binding_cases.specs.Judging.{starts_at, StartsAt, FindsStart}

-- an element that is chosen and passes, or none
module _ {B : Type 0} (p : B → Bool) where
  any_some : (fs : List ℕ) (bs : List B) (i : ℕ) (d : B) → i < length bs → (is_kept (get_or fs i 0) && p (get_or bs i d)) ≡ true → any p (chosen fs bs) ≡ true
  unfolding any chosen keep_if is_kept
  any_some fs [] i d h e = absurd (omega arith)
  any_some [] (b ∷ bs) i d h e = e
  any_some (zero ∷ fs) (b ∷ bs) zero d h e = absurd (let z : ◌≡◌ {A = ℕ} 0 1 = cc in omega arith)
  any_some (suc f ∷ fs) (b ∷ bs) zero d h e = ap (λ x. x || any p (chosen fs bs)) e
  any_some (zero ∷ fs) (b ∷ bs) (suc i) d h e = any_some fs bs i d (le_of_suc-le-suc h) e
  any_some (suc f ∷ fs) (b ∷ bs) (suc i) d h e = go (p b) (any_some fs bs i d (le_of_suc-le-suc h) e)
    where
      go : (v : Bool) → any p (chosen fs bs) ≡ true → (v || any p (chosen fs bs)) ≡ true
      go true f = refl
      go false f = f

  any_none : (fs : List ℕ) (bs : List B) (d : B) → ((i : ℕ) → i < length bs → (is_kept (get_or fs i 0) && p (get_or bs i d)) ≡ false) → any p (chosen fs bs) ≡ false
  unfolding any chosen keep_if is_kept
  any_none [] bs d h = refl
  any_none (f ∷ fs) [] d h = refl
  any_none (zero ∷ fs) (b ∷ bs) d h = any_none fs bs d (λ i k. h (suc i) (omega arith))
  any_none (suc f ∷ fs) (b ∷ bs) d h = ap₂ ◌||◌ (h 0 (omega arith)) (any_none fs bs d (λ i k. h (suc i) (omega arith)))

-- the goal 0 is the state 0
same_zero : {rs : List Record} (g : ℕ) (τ : Ty) → Goal rs g τ → same τ (state 0) ≡ eqb g 0
unfolding same
same_zero g τ (of_state_law q small e f) = ap (λ σ. same σ (state 0)) f ∙ ap (λ x. eqb x 0) (sym e)
same_zero g τ (of_arrow m a r k x u y) = ap (λ σ. same σ (state 0)) y ∙ sym (ne_eqb g 0 (λ z. omega arith))

module _ (t flags : List ℕ) (b flag : ℕ) (is : IsField 1 flags b flag) where
  pub starts_dropped : flag ≡ 0 → StartsAt t flags b false
  unfolding is_kept
  starts_dropped z = record { answer = λ rs types bindings h. sym (ap (λ x. is_kept x && is_start (binding_at rs b)) (sym (byte_is flags b flag is) ∙ z)) }

  module _ (nz : flag ≡ 0 → ⊥) (f : ℕ) (symbol : f ≡ symbol_of t b) where
    kept : is_kept (get_or flags b 0) ≡ true
    kept = ap is_kept (sym (byte_is flags b flag is)) ∙ kept_byte flag nz

    pub starts_other : 0 < f → StartsAt t flags b false
    unfolding is_start
    starts_other h =
        record {
          answer = λ rs types bindings l.
              let s = bindings.symbol b l in
              sym (ap (λ x. is_kept (get_or flags b 0) && (x && same (binding_at rs b).type (state 0))) (ne_eqb (binding_at rs b).nonterminal 0 (λ z. omega arith)) ∙ and_no (is_kept (get_or flags b 0)));
        }

    pub starts_here : f ≤ 0 → (g : ℕ) → g ≡ own_of t b → StartsAt t flags b (eqb g 0)
    unfolding is_start
    starts_here h g own =
        record {
          answer = λ rs types bindings l.
              let s = bindings.symbol b l in
              let first : (binding_at rs b).nonterminal ≡ 0 = omega arith in
              let state_0 : same (binding_at rs b).type (state 0) ≡ eqb g 0 = same_zero (own_of t b) (binding_at rs b).type (bindings.own b l) ∙ ap (λ x. eqb x 0) (sym own) in
              sym (ap (λ x. x && is_start (binding_at rs b)) kept ∙ ap (λ x. eqb x 0 && same (binding_at rs b).type (state 0)) first ∙ state_0);
        }

-- The bindings one after the other.
module _ (t flags : List ℕ) (n : ℕ) where
  start_found : (b : ℕ) → b < n → StartsAt t flags b true → FindsStart t flags n true
  start_found b h at =
      record {
        answer = λ rs types bindings m.
            let many = bindings_many rs in
            sym (any_some is_start flags (bindings_of rs) b no_binding (omega arith) (sym (at.answer rs types bindings (omega arith))));
      }

  -- those behind are of other nonterminals
  start_behind : (b : ℕ) → b ≡ min n (group_of t 1) → ((i : ℕ) → i < b → StartsAt t flags i false) → FindsStart t flags n false
  unfolding is_start
  start_behind b e none =
      record {
        answer = λ rs types bindings m.
            let many = bindings_many rs in
            sym (any_none is_start flags (bindings_of rs) no_binding (λ i k. by rs types bindings m i (omega arith) (dec_lt i b)));
      }
    where
      other : (rs : List Record) → BindingsAre rs t → (i : ℕ) → i < count Kind.binding rs → group_of t 1 ≤ i → (binding_at rs i).nonterminal ≡ 0 → ⊥
      other rs bindings i l k z = let below = (bindings.grouped i l).1 in let first = ap (λ f. group_of t (suc f)) z in omega arith

      by : (rs : List Record) → TypesAre rs t → BindingsAre rs t → n ≡ count Kind.binding rs → (i : ℕ) → i < count Kind.binding rs → Dec (i < b) → starts_at rs flags i ≡ false
      by rs types bindings m i l (yes k) = sym ((none i k).answer rs types bindings l)
      by rs types bindings m i l (no k) =
          ap (λ x. is_kept (get_or flags i 0) && (x && same (binding_at rs i).type (state 0))) (ne_eqb (binding_at rs i).nonterminal 0 (other rs bindings i l (omega arith))) ∙ and_no (is_kept (get_or flags i 0))

  -- any of the bindings of nonterminal 0
  pub start_any : (r : Bool) (b : ℕ) → b ≡ min n (group_of t 1)
      → MatchBool r ((i : ℕ) × (i < length (range_with_len 0 b)) × HoldsAt (λ i. StartsAt t flags i true) (range_with_len 0 b) i) (AllWithin (λ i. StartsAt t flags i false) (range_with_len 0 b) 0 (length (range_with_len 0 b)))
      → FindsStart t flags n r
  start_any true b e (i, l, at) =
      let h = length-range_with_len 0 b in
      let is : get_or (range_with_len 0 b) i 0 ≡ i = get_or-range_with_len 0 b i 0 (omega arith) ∙ omega arith in
      start_found i (omega arith) (subst (λ k. StartsAt t flags k true) is (at 0))
  start_any false b e none =
      let h = length-range_with_len 0 b in
      start_behind b e (λ i l.
      let is : get_or (range_with_len 0 b) i 0 ≡ i = get_or-range_with_len 0 b i 0 l ∙ omega arith in
      subst (λ k. StartsAt t flags k false) is (none i 0 (omega arith) (omega arith)))

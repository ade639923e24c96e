-- The first element of a list that passes a test: by membership, and among the types bound to a nonterminal.
use Prim.Native.Nat.{ℕ, zero, suc, ◌<◌}
use native.Mathlib.Omega.{arith}
use native.Mathlib.Nat.{le_of_suc-le-suc}
use mathlib.Core.Path.{◌≡◌, refl, sym, ap, ◌∙◌}
use mathlib.Core.Logic.{◌⊎◌, inl, inr}
use mathlib.Core.Bool.{Bool, true, false, true≢false}
use mathlib.Core.List.Memᴰ
use mathlib.Core.List.{List, [], ◌∷◌, Memᴰ}
use mathlib.Core.Option.{none, some}
use lib.Dec.{eqb}
use lib.ListN.{length, get_or}
use borrow.Author.Tests.{eq-eqb, eqb-true}
use Rattle.scheme.specs.Lists.{choose◌then◌else◌, keep_if, first_of}
use Rattle.scheme.specs.Types.{Ty}
use Rattle.scheme.specs.Typing.{Binding, bound}
use Rattle.scheme.specs.Flags.{is_kept, chosen}

module _ {A : Type 0} (p : A → Bool) where
  -- an element that passes comes first, one that fails does not
  pub first_here : (x : A) (xs : List A) → p x ≡ true → first_of p (x ∷ xs) ≡ some x
  unfolding first_of
  first_here x xs e = ap (λ b. choose b then some x else first_of p xs) e

  pub first_behind : (x : A) (xs : List A) → p x ≡ false → first_of p (x ∷ xs) ≡ first_of p xs
  unfolding first_of
  first_behind x xs e = ap (λ b. choose b then some x else first_of p xs) e

  -- by membership
  pub first_only : (l : List A) (x : A) → Memᴰ x l → p x ≡ true → ((y : A) → Memᴰ y l → p y ≡ true → y ≡ x) → first_of p l ≡ some x
  first_only [] x m e only = absurd (Memᴰ.not-nil m)
  first_only (y ∷ ys) x m e only = go (p y) refl (Memᴰ.cases_cons m) (λ k. first_only ys x k e (λ z n. only z (Memᴰ.tail n)))
    where
      go : (b : Bool) → p y ≡ b → (x ≡ y) ⊎ Memᴰ x ys → (Memᴰ x ys → first_of p ys ≡ some x) → first_of p (y ∷ ys) ≡ some x
      go true f k ih = first_here y ys f ∙ ap some (only y (Memᴰ.head refl) f)
      go false f (inl k) ih = absurd (true≢false (sym e ∙ ap p k ∙ f))
      go false f (inr k) ih = first_behind y ys f ∙ ih k

  pub first_nobody : (l : List A) → ((y : A) → Memᴰ y l → p y ≡ true → ⊥) → first_of p l ≡ none
  unfolding first_of
  first_nobody [] no_one = refl
  first_nobody (y ∷ ys) no_one = go (p y) refl (first_nobody ys (λ z n. no_one z (Memᴰ.tail n)))
    where
      go : (b : Bool) → p y ≡ b → first_of p ys ≡ none → first_of p (y ∷ ys) ≡ none
      go true f ih = absurd (no_one y (Memᴰ.head refl) f)
      go false f ih = first_behind y ys f ∙ ih

-- among the types that the kept bindings give a nonterminal
module _ (p : Ty → Bool) (f : ℕ) (d : Binding) where
  -- a binding that is not kept, or is another nonterminal's, is passed
  kept_or_not : (k v : Bool) (b : Binding) (bs : List Binding) → eqb b.nonterminal f ≡ v → (k ≡ true → v ≡ true → p b.type ≡ false) → first_of p (bound (keep_if k b bs) f) ≡ first_of p (bound bs f)
  unfolding bound keep_if
  kept_or_not false v b bs e h = refl
  kept_or_not true false b bs e h = ap (λ c. first_of p (keep_if c b.type (bound bs f))) e
  kept_or_not true true b bs e h = ap (λ c. first_of p (keep_if c b.type (bound bs f))) e ∙ first_behind p b.type (bound bs f) (h refl refl)

  passed : (g : ℕ) (b : Binding) (bs : List Binding) → (is_kept g ≡ true → b.nonterminal ≡ f → p b.type ≡ false) → first_of p (bound (keep_if (is_kept g) b bs) f) ≡ first_of p (bound bs f)
  passed g b bs h = kept_or_not (is_kept g) (eqb b.nonterminal f) b bs refl (λ k v. h k (eqb-true b.nonterminal f v))

  pub bound_first : (fs : List ℕ) (bs : List Binding) (c : ℕ) → c < length bs → is_kept (get_or fs c 0) ≡ true → (get_or bs c d).nonterminal ≡ f → p (get_or bs c d).type ≡ true
      → ((i : ℕ) → i < c → is_kept (get_or fs i 0) ≡ true → (get_or bs i d).nonterminal ≡ f → p (get_or bs i d).type ≡ false) → first_of p (bound (chosen fs bs) f) ≡ some (get_or bs c d).type
  unfolding chosen bound keep_if is_kept
  bound_first fs [] c h k e y before = absurd (omega arith)
  bound_first [] (b ∷ bs) c h k e y before = absurd (true≢false (sym k))
  bound_first (g ∷ fs) (b ∷ bs) zero h k e y before =
      ap (λ x. first_of p (bound (keep_if x b (chosen fs bs)) f)) k ∙ ap (λ x. first_of p (keep_if x b.type (bound (chosen fs bs) f))) (eq-eqb b.nonterminal f e) ∙ first_here p b.type (bound (chosen fs bs) f) y
  bound_first (g ∷ fs) (b ∷ bs) (suc c) h k e y before = passed g b (chosen fs bs) (before 0 (omega arith)) ∙ bound_first fs bs c (le_of_suc-le-suc h) k e y (λ i l. before (suc i) (omega arith))

  pub bound_none : (fs : List ℕ) (bs : List Binding) → ((i : ℕ) → i < length bs → is_kept (get_or fs i 0) ≡ true → (get_or bs i d).nonterminal ≡ f → p (get_or bs i d).type ≡ false) → first_of p (bound (chosen fs bs) f) ≡ none
  unfolding chosen bound first_of
  bound_none [] bs no_one = refl
  bound_none (g ∷ fs) [] no_one = refl
  bound_none (g ∷ fs) (b ∷ bs) no_one = passed g b (chosen fs bs) (no_one 0 (omega arith)) ∙ bound_none fs bs (λ i l. no_one (suc i) (omega arith))

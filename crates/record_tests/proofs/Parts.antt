-- A payload in parts of one length: the items that a chain over them yields, and whether one of these passes a test.
use Prim.Native.Nat.{ℕ, ◌<◌}
use native.Mathlib.Omega.{arith}
use mathlib.Core.Path.{◌≡◌, refl, ap, subst, ◌∙◌}
use mathlib.Core.Bool.{Bool, ◌||◌}
use mathlib.Core.List.{List, [], ◌∷◌, ◌++◌}
use lib.ListN.{length}
use Rattle.std.specs.List.{list_any}
use Rattle.std.specs.Slice.Iter.{chunks_exact_rest, chunks_exact_size, chunks_exact_steps}
use Rattle.std.proofs.lemmas.Iterator.{YieldsList}
use Rattle.std.proofs.lemmas.Iterator.Splits.{YieldsList-from_shown_while}
use Rattle.std.proofs.lemmas.List.Recursion.{same_from_clauses}
use Rattle.scheme.specs.Lists.{any}

pub any_is : {A : Type 0} (test : A → Bool) (l : List A) → list_any test l ≡ any test l
unfolding any
any_is test = same_from_clauses (list_any test) (any test) (λ x b. test x || b) refl (λ x l. refl) (λ x l. refl)

-- an item is read off each part of w bytes
module _ {A : Type 0} (w : ℕ) (item : List ℕ → A) (items : List ℕ → List A) (few : (l : List ℕ) → length l < w → items l ≡ [])
    (more : (x l : List ℕ) → length x ≡ w → items (x ++ l) ≡ item x ∷ items l) where
  pub parts_yielded : {s : _} (p : List ℕ) → chunks_exact_rest s ≡ p → chunks_exact_size s ≡ w → YieldsList chunks_exact_steps (λ x. item x.now) s (items p)
  parts_yielded {s} p rest size =
      subst (λ l. YieldsList chunks_exact_steps (λ x. item x.now) s (items l)) rest
      (YieldsList-from_shown_while chunks_exact_steps (λ x. item x.now) (λ t. items (chunks_exact_rest t)) (λ t. chunks_exact_size t ≡ w)
      (λ t u h k. ap length (few (chunks_exact_rest t) (omega (arith, k.1.0))))
      (λ t x u h k. (k.0 ∙ h, ap items k.1.0 ∙ more x.now (chunks_exact_rest u) (k.1.1 ∙ h)))
      s size)

-- Sorts by code: the code of a listed sort is its number; constructors' sorts, one after another.
use Prim.Native.Nat.{ℕ, zero, suc, ◌+◌, ◌<◌, ◌≤◌}
use mathlib.Core.Path.{◌≡◌, refl, sym, ap, ◌∙◌}
use mathlib.Core.List.{List, [], ◌∷◌}
use native.Mathlib.Omega.{arith}
use Rattle.std.specs.Prelude.{Option, Some, None}
use lib.ListN.{length, get_or}
use Rattle.scheme.specs.Sorts.{Sort, o, ◌⇒◌, tree_sort}
use Rattle.sorts.specs.codes.Sorted.{SortArrays, Code, listed, unlisted, TreeCodes, ArrowTo}
use Rattle.sorts.specs.declared.codes.Sorts.{Sorts}

module _ {sorts : List Sort} {arrows : Sorts} (w : SortArrays sorts arrows) where
  -- a code below the number of sorts is a number
  pub code_listed : {c : ℕ} {s : Sort} → Code sorts c s → c < 1000 → (c < length sorts) × (get_or sorts c o ≡ s)
  code_listed (listed h e) k = (h, e)
  code_listed (unlisted m h e f u) k = absurd (omega arith)

  -- the code of a listed sort is its number
  pub listed_code : {c : ℕ} {s : Sort} (j : ℕ) → Code sorts c s → j < length sorts → get_or sorts j o ≡ s → c ≡ j
  listed_code {c} j (listed h e) k f = w.distinct c j (omega arith) k (e ∙ sym f)
  listed_code j (unlisted m h e f u) k g = absurd (u j (omega arith) (g ∙ f))

  pub code_small : {c : ℕ} {s : Sort} → Code sorts c s → c < 2000
  code_small (listed h e) = omega (arith, w.few)
  code_small (unlisted m h e f u) = omega arith

  -- the sort o has the code 0
  pub start_code : Code sorts 0 o
  start_code = listed (omega (arith, w.positive)) w.start

  pub tree_start : Code sorts 0 (tree_sort 0)
  unfolding tree_sort
  tree_start = start_code

  -- where a sort from o is listed, it is by its two numbers
  arrow_parts : (b : Sort) (i : ℕ) → i < length sorts → get_or sorts i o ≡ o ⇒ b → (0 < i) × (get_or arrows.froms.now i 0 ≡ 0) × (get_or arrows.tos.now i 0 < length sorts) × (get_or sorts (get_or arrows.tos.now i 0) o ≡ b)
  arrow_parts b zero h e = absurd (let s = w.start in let z : ◌≡◌ {A = ℕ} 0 1 = cc in omega arith)
  arrow_parts b (suc i) h e =
      let m = w.made (suc i) (omega arith) h in
      let lf = w.from_below (suc i) (omega arith) h in
      let lt = w.to_below (suc i) (omega arith) h in
      let s = w.start in
      let ef : get_or sorts (get_or arrows.froms.now (suc i) 0) o ≡ get_or sorts 0 o = cc in
      (omega arith, w.distinct (get_or arrows.froms.now (suc i) 0) 0 (omega arith) w.positive ef, omega arith, cc)

  -- the next of the constructors' sorts, where the one before is not listed
  pub next_unlisted : (m code other : ℕ) → m < 4 → other ≡ 1001 + m → 1000 ≤ code → Code sorts code (tree_sort m) → Code sorts other (tree_sort (suc m))
  unfolding tree_sort
  next_unlisted m code other h e k (listed x y) = absurd (omega (arith, w.few))
  next_unlisted m code other h e k (unlisted m' x y f u) =
      unlisted (suc m) (omega arith) (omega arith) refl
      (λ i l g. let (p, q, r, s) = arrow_parts (tree_sort m) i (omega arith) g in u (get_or arrows.tos.now i 0) (omega arith) (s ∙ f))

  -- where it is listed
  pub next_listed : (m code r r' : ℕ) {n : ℕ} {found : Option ℕ} → n ≡ length sorts → code < 1000 → ArrowTo arrows n code found → found ≡ Some r → (r < 65536 → r' ≡ r) → Code sorts code (tree_sort m) → Code sorts r' (tree_sort (suc m))
  unfolding tree_sort
  next_listed m code r r' long h a is e d =
      let (k', p, q, t) = a.is r is in
      let k : r < length sorts = omega arith in
      let (x, y) = code_listed d h in
      let made = w.made r p k in
      let s = w.start in
      let er : r' ≡ r = e (omega (arith, w.few)) in
      let ef : get_or sorts (get_or arrows.froms.now r 0) o ≡ get_or sorts 0 o = ap (λ z. get_or sorts z o) q in
      let et : get_or sorts (get_or arrows.tos.now r 0) o ≡ get_or sorts code o = ap (λ z. get_or sorts z o) t in
      rw er (listed (omega arith) (cc))

  -- where it is not, and the one before is
  pub next_missing : (m code other : ℕ) {n : ℕ} {found : Option ℕ} → n ≡ length sorts → m < 4 → other ≡ 1001 + m → code < 1000 → ArrowTo arrows n code found → found ≡ None → Code sorts code (tree_sort m) → Code sorts other (tree_sort (suc m))
  unfolding tree_sort
  next_missing m code other long h e k a g d =
      let (x, y) = code_listed d k in
      unlisted (suc m) (omega arith) (omega arith) refl
      (λ i l f. let (p, q, b, s) = arrow_parts (tree_sort m) i (omega arith) f in
      a.none_is g i p (omega arith) q (w.distinct (get_or arrows.tos.now i 0) code b (omega arith) (s ∙ sym y)))

  -- the five together
  pub five : (a b c d : ℕ) → Code sorts a (tree_sort 1) → Code sorts b (tree_sort 2) → Code sorts c (tree_sort 3) → Code sorts d (tree_sort 4) → TreeCodes sorts (0 ∷ a ∷ b ∷ c ∷ d ∷ [])
  five a b c d ca cb cc' cd zero h = tree_start
  five a b c d ca cb cc' cd (suc zero) h = ca
  five a b c d ca cb cc' cd (suc (suc zero)) h = cb
  five a b c d ca cb cc' cd (suc (suc (suc zero))) h = cc'
  five a b c d ca cb cc' cd (suc (suc (suc (suc zero)))) h = cd
  five a b c d ca cb cc' cd (suc (suc (suc (suc (suc m))))) h = absurd (omega arith)

-- The terms of a replay keep their sort: each is a tree.
use Prim.Native.Nat.{ℕ, zero, suc}
use native.Mathlib.Omega.{arith}
use mathlib.Core.Path.{◌≡◌, refl, sym, ap, ◌∙◌}
use mathlib.Core.List.{List, []}
use mathlib.Core.Option.{Option, none, some}
use lib.ListN.{get_or}
use Rattle.scheme.specs.Sorts.{o, arguments}
use Rattle.scheme.specs.Sorting.{head_sort, sort_of}
use Rattle.scheme.specs.Terms.{con, nt, par, Term, node, Terms, []ᵗ, put}
use Rattle.scheme.specs.Reduction.{body}
use Rattle.scheme.specs.Replay.{At, descend, follow}
use Rattle.scheme.proofs.Sorting.{after_each, tree_argument, put_sorted}
use Rattle.casefile.specs.Records.{Record}
use Rattle.casefile.specs.Tables.{arities_of, signatures_of, plan_of, automaton_of}
use Rattle.casefile.specs.Refusals.{refuse_whole}
use Rattle.casefile.specs.Promises.{Passed}
use Rattle.casefile.specs.Sorted.{closed_sorts}
use Rattle.casefile.proofs.Bodies.{body_sorted}

module _ (rs : List Record) where
  -- the nonterminal in front unfolded
  unfold_sorted : (flags : ℕ) → refuse_whole rs flags ≡ none → (f : ℕ) (ts : Terms) → sort_of (closed_sorts rs) (node (nt f) ts) ≡ some o → sort_of (closed_sorts rs) (put ts (body (plan_of rs) f)) ≡ some o
  unfolding closed_sorts sort_of head_sort
  unfold_sorted flags whole f ts e =
      let s = get_or (signatures_of rs) f o in
      put_sorted (arities_of rs) (signatures_of rs) (arguments s) ts (body (plan_of rs) f) o (body_sorted rs flags whole f)
      (λ i. after_each (head_sort (arities_of rs) (signatures_of rs) []) ts s i (node (par i) []ᵗ) e refl)

  -- an argument of the constructor in front
  descend_sorted : (c i : ℕ) (ts : Terms) (targets : Option (List ℕ)) (a : At) → sort_of (closed_sorts rs) (node (con c) ts) ≡ some o → descend i ts targets ≡ some a → sort_of (closed_sorts rs) a.term ≡ some o
  unfolding closed_sorts sort_of head_sort descend
  descend_sorted c i ts none a e f = absurd (let z : ◌≡◌ {A = ℕ} 0 1 = cc in omega arith)
  descend_sorted c i ts (some qs) a e f = tree_argument (closed_sorts rs) ts (get_or (arities_of rs) c 0) o i qs a e f

  -- EACH LETTER KEEPS THE SORT
  pub follow_sorted : (flags : ℕ) → Passed rs → refuse_whole rs flags ≡ none → (letter : ℕ) (t : Term) (q : ℕ) (a : At) → sort_of (closed_sorts rs) t ≡ some o
      → follow (automaton_of rs) (plan_of rs) letter t q ≡ some a → sort_of (closed_sorts rs) a.term ≡ some o
  unfolding follow
  follow_sorted flags ok whole zero (node (con c) ts) q a e f = absurd (let z : ◌≡◌ {A = ℕ} 0 1 = cc in omega arith)
  follow_sorted flags ok whole zero (node (nt g) ts) q a e f =
      let u : put ts (body (plan_of rs) g) ≡ a.term = cc in
      ap (sort_of (closed_sorts rs)) (sym u) ∙ unfold_sorted flags whole g ts e
  follow_sorted flags ok whole zero (node (par i) ts) q a e f = absurd (let z : ◌≡◌ {A = ℕ} 0 1 = cc in omega arith)
  follow_sorted flags ok whole (suc i) (node (con c) ts) q a e f = descend_sorted c i ts ((automaton_of rs).targets q c) a e f
  follow_sorted flags ok whole (suc i) (node (nt g) ts) q a e f = absurd (let z : ◌≡◌ {A = ℕ} 0 1 = cc in omega arith)
  follow_sorted flags ok whole (suc i) (node (par j) ts) q a e f = absurd (let z : ◌≡◌ {A = ℕ} 0 1 = cc in omega arith)

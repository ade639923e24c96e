-- The sorts of the start symbol and of the bodies of a file that is not refused.
use Prim.Native.Nat.{ℕ, ◌<◌, ◌≤◌}
use native.Mathlib.Omega.{arith}
use native.Mathlib.Decide.{dec_lt}
use mathlib.Core.Path.{◌≡◌, refl, ap, ◌∙◌}
use mathlib.Core.Bool.{◌&&◌, not, false}
use mathlib.Core.List.{List, [], ◌∷◌, map}
use mathlib.Core.Option.{none, some}
use borrow.Author.Tests.{eqb-true, not-false}
use lib.Dec.{eqb, leb}
use lib.ListN.{get_or, length-map, get_or-eq_default}
use Rattle.scheme.specs.Lists.{found}
use Rattle.scheme.specs.Sorts.{Sort, o, same_sort, arguments}
use Rattle.scheme.specs.Sorting.{head_sort, sort_of}
use Rattle.scheme.specs.Terms.{Head, nt, node, []ᵗ, countᵗ}
use Rattle.scheme.specs.Prefix.{terms, complete, depth}
use Rattle.scheme.specs.Reduction.{body, start}
use Rattle.scheme.proofs.Lists.{and_true, get_d_map_in}
use Rattle.scheme.proofs.Sorting.{found_sort}
use Rattle.casefile.specs.Fields.{word}
use Rattle.casefile.specs.Records.{Record}
use Rattle.casefile.specs.Kinds.{Kind, of_kind, payloads, count}
use Rattle.casefile.specs.Tables.{sorts_of, arities_of, signatures_of, nodes_of, body_of, plan_of}
use Rattle.casefile.specs.Refusals.{first, wrong_body, wrong_start, refuse_whole}
use Rattle.casefile.proofs.Passed.{first_none}
use Rattle.casefile.proofs.Plans.{plan_right, body_passes, signatures_length}
use Rattle.casefile.proofs.SortTable.{sort_zero}
use Rattle.casefile.proofs.TypeTable.{count_payloads}
use Rattle.casefile.specs.Sorted.{closed_sorts}

-- the first nonterminal, if there is one, is of sort 0
first_signature : (sorts : List Sort) (qs : List Record) → get_or sorts 0 o ≡ o → first (wrong_start qs) ≡ none
    → get_or (map (λ (p : List ℕ). get_or sorts (word p 0) o) (map (λ (r : Record). r.payload) qs)) 0 o ≡ o
unfolding wrong_start
first_signature sorts [] z e = refl
first_signature sorts (q ∷ qs) z e =
    let zero-there = eqb (word q.payload 0) 0 in
    let w : word q.payload 0 ≡ 0 = eqb-true (word q.payload 0) 0 (not-false zero-there (first_none 9 q.place (not zero-there) [] e).0) in
    ap (λ k. get_or sorts k o) w ∙ z

-- THE START SYMBOL IS A TREE
pub start_sorted : (rs : List Record) (flags : ℕ) → refuse_whole rs flags ≡ none → sort_of (closed_sorts rs) start ≡ some o
unfolding closed_sorts head_sort sort_of signatures_of payloads
start_sorted rs flags e = ap some (first_signature (sorts_of rs) (of_kind Kind.nonterminal rs) (sort_zero rs) (plan_right rs flags e).start_right)

-- a body that passes 9
right_body : (arities : List ℕ) (sigs : List Sort) (s : Sort) (p : List ℕ) → wrong_body arities sigs s p ≡ false → sort_of (head_sort arities sigs (arguments s)) (body_of p) ≡ some o
unfolding wrong_body
right_body arities sigs s p e =
    let whole = complete (nodes_of p) && eqb (countᵗ (terms (nodes_of p))) 1 in
    let sorted = found (sort_of (head_sort arities sigs (arguments s)) (body_of p)) (same_sort o) in
    let shallow = leb (depth (body_of p)) 64 in
    found_sort (sort_of (head_sort arities sigs (arguments s)) (body_of p)) o (and_true whole sorted (and_true (whole && sorted) shallow (not-false (whole && sorted && shallow) e)).0).1

-- each body is a tree, where its parameters have the sorts that its nonterminal asks for
module _ (rs : List Record) (flags : ℕ) (e : refuse_whole rs flags ≡ none) (f : ℕ) where
  abbrev sorts : Head → Sort
  sorts = head_sort (arities_of rs) (signatures_of rs) (arguments (get_or (signatures_of rs) f o))

  ruled : f < count Kind.rule rs → sort_of sorts (body (plan_of rs) f) ≡ some o
  unfolding body plan_of
  ruled h =
      let many = count_payloads Kind.rule rs in
      ap (sort_of sorts) (get_d_map_in body_of (payloads Kind.rule rs) f (node (nt f) []ᵗ) [] (omega arith))
      ∙ right_body (arities_of rs) (signatures_of rs) (get_or (signatures_of rs) f o) (get_or (payloads Kind.rule rs) f []) (body_passes rs flags e f h)

  -- one that has no rule stands for itself, and has no signature
  unruled : count Kind.rule rs ≤ f → sort_of sorts (body (plan_of rs) f) ≡ some o
  unfolding body plan_of sort_of head_sort
  unruled h =
      let many = count_payloads Kind.rule rs in
      let long = length-map (payloads Kind.rule rs) body_of in
      let same = (plan_right rs flags e).rules_all in
      let sigs = signatures_length rs in
      ap (sort_of sorts) (get_or-eq_default (map body_of (payloads Kind.rule rs)) (node (nt f) []ᵗ) {n = f} (omega arith))
      ∙ ap some (get_or-eq_default (signatures_of rs) o {n = f} (omega arith))

  pub body_sorted : sort_of (head_sort (arities_of rs) (signatures_of rs) (arguments (get_or (signatures_of rs) f o))) (body (plan_of rs) f) ≡ some o
  body_sorted = by (dec_lt f (count Kind.rule rs))
    where
      by : Dec (f < count Kind.rule rs) → sort_of sorts (body (plan_of rs) f) ≡ some o
      by (yes h) = ruled h
      by (no h) = unruled (omega arith)

-- The sorts of the heads of a file whose records passed have at most 8 arguments: a listed sort by 5, a constructor 4 by 6.
use Prim.Native.Nat.{ℕ, zero, suc, ◌+◌, ◌<◌, ◌≤◌}
use native.Mathlib.Omega.{arith}
use native.Mathlib.Decide.{dec_lt}
use mathlib.Core.Path.{◌≡◌, sym, subst}
use mathlib.Core.Bool.{◌&&◌}
use mathlib.Core.List.{List, [], ◌∷◌}
use mathlib.Core.Option.{some}
use borrow.Author.Tests.{leb-false, ltb-false, lt-ltb}
use lib.Dec.{leb, ltb}
use lib.ListN.{length, get_or, take, length-map, get_or-eq_default}
use Rattle.scheme.specs.Sorts.{Sort, o, arguments}
use Rattle.scheme.specs.Sorting.{head_sort, sort_of}
use Rattle.scheme.specs.Terms.{Head, con, nt, par, node, Terms, countᵗ}
use Rattle.scheme.proofs.Lists.{or_false, and_false, get_d_map_in}
use Rattle.scheme.proofs.Sorting.{tree_arguments, after_count}
use Rattle.casefile.specs.Fields.{word}
use Rattle.casefile.specs.Records.{Record}
use Rattle.casefile.specs.Kinds.{Kind, payloads, count}
use Rattle.casefile.specs.Tables.{grow, sort_from, sorts_of, arities_of, signatures_of}
use Rattle.casefile.specs.Refusals.{too_many, too_large, out_of_range}
use Rattle.casefile.proofs.Growth.{sofar, grow_entry, grow_length}
use Rattle.casefile.proofs.Passed.{Tested, entry}
use Rattle.casefile.specs.Promises.{Passed}
use Rattle.casefile.proofs.Payloads.{arity_small}
use Rattle.casefile.proofs.SortTable.{sort_zero}
use Rattle.casefile.specs.Sorted.{closed_sorts}

-- a sort record that passed makes a sort of at most 8 arguments
made_small : (earlier : List Record) (p : List ℕ) → Tested earlier p Kind.sort → length (arguments (sort_from (sorts_of earlier) p)) ≤ 8
unfolding too_large out_of_range sort_from arguments
made_small earlier p t =
    let n = length (sorts_of earlier) in
    let named = ltb (word p 2) n in
    let over = ltb 8 (suc (length (arguments (get_or (sorts_of earlier) (word p 2) o)))) in
    let few = (or_false (too_many Kind.sort (count Kind.sort earlier)) (named && over) t.few).1 in
    let there = leb-false n (word p 2) (or_false (leb n (word p 0)) (leb n (word p 2)) t.ranges).1 in
    ltb-false 8 (suc (length (arguments (get_or (sorts_of earlier) (word p 2) o)))) (and_false named over few (lt-ltb (word p 2) n there))

module _ {rs : List Record} (ok : Passed rs) where
  listed_small : (i : ℕ) → i < length (payloads Kind.sort rs) → length (arguments (get_or (sorts_of rs) (1 + i) o)) ≤ 8
  unfolding sorts_of sofar
  listed_small i h =
      let n = entry ok Kind.sort i h in
      let ps = payloads Kind.sort rs in
      let made : get_or (sorts_of rs) (1 + i) o ≡ sort_from (grow sort_from (o ∷ []) (take i ps)) (get_or ps i []) = grow_entry sort_from (o ∷ []) ps i h o in
      let same : get_or (sorts_of rs) (1 + i) o ≡ sort_from (sorts_of n.earlier) n.payload = (
      let a = n.before in
      let b = n.here in
      cc) in
      subst (λ s. length (arguments s) ≤ 8) (sym same) (made_small n.earlier n.payload n.passed_tests)

  -- each sort of the table has at most 8 arguments
  pub sort_small : (k : ℕ) → length (arguments (get_or (sorts_of rs) k o)) ≤ 8
  unfolding arguments
  sort_small zero = subst (λ s. length (arguments s) ≤ 8) (sym (sort_zero rs)) (omega arith)
  sort_small (suc i) = by (dec_lt i (length (payloads Kind.sort rs)))
    where
      by : Dec (i < length (payloads Kind.sort rs)) → length (arguments (get_or (sorts_of rs) (suc i) o)) ≤ 8
      by (yes h) = let one : 1 + i ≡ suc i = omega arith in subst (λ k. length (arguments (get_or (sorts_of rs) k o)) ≤ 8) one (listed_small i h)
      by (no h) =
          unfold sorts_of in
          let l = grow_length sort_from (o ∷ []) (payloads Kind.sort rs) in
          subst (λ s. length (arguments s) ≤ 8) (sym (get_or-eq_default (sorts_of rs) o {n = suc i} (omega arith))) (omega arith)

  -- the sort that a nonterminal record names
  abbrev sort_at : List ℕ → Sort
  sort_at p = get_or (sorts_of rs) (word p 0) o

  pub signature_small : (f : ℕ) → length (arguments (get_or (signatures_of rs) f o)) ≤ 8
  unfolding signatures_of arguments
  signature_small f = by (dec_lt f (length (payloads Kind.nonterminal rs)))
    where
      by : Dec (f < length (payloads Kind.nonterminal rs)) → length (arguments (get_or (signatures_of rs) f o)) ≤ 8
      by (yes h) =
          subst (λ s. length (arguments s) ≤ 8) (sym (get_d_map_in sort_at (payloads Kind.nonterminal rs) f o [] h)) (sort_small (word (get_or (payloads Kind.nonterminal rs) f []) 0))
      by (no h) =
          let l = length-map (payloads Kind.nonterminal rs) sort_at in
          subst (λ s. length (arguments s) ≤ 8) (sym (get_or-eq_default (signatures_of rs) o {n = f} (omega arith))) (omega arith)

  head_small : (h : Head) → length (arguments (closed_sorts rs h)) ≤ 8
  unfolding closed_sorts head_sort arguments
  head_small (con c) = let a = tree_arguments (get_or (arities_of rs) c 0) in let b = arity_small ok c in omega arith
  head_small (nt f) = signature_small f
  head_small (par i) = omega arith

-- FEW ARGUMENTS: each head of a sorted term has at most 8
pub few_arguments : (rs : List Record) → Passed rs → (h : Head) (ts : Terms) (s : Sort) → sort_of (closed_sorts rs) (node h ts) ≡ some s → countᵗ ts ≤ 8
unfolding sort_of
few_arguments rs ok h ts s e = let a = after_count (closed_sorts rs) ts (closed_sorts rs h) s e in let b = head_small ok h in omega arith

-- The sorts of a file, by arrays that hold the two numbers of each sort record.
use Prim.Native.Nat.{ℕ, zero, suc, ◌<◌}
use mathlib.Core.Path.{◌≡◌, sym, ap₂, ◌∙◌}
use mathlib.Core.List.{List, [], ◌∷◌}
use native.Mathlib.Omega.{arith}
use native.Mathlib.Nat.{le_of_suc-le-suc}
use lib.ListN.{length, get_or}
use Rattle.scheme.specs.Sorts.{o, ◌⇒◌}
use Rattle.casefile.specs.Fields.{word}
use Rattle.casefile.specs.Records.{Record}
use Rattle.casefile.specs.Promises.{Bytes, Passed}
use Rattle.casefile.specs.Kinds.{sort, payloads}
use Rattle.casefile.specs.Tables.{sort_from, sorts_of}
use Rattle.casefile.proofs.Growth.{grow_length}
use Rattle.casefile.proofs.SortTable.{sort_zero, sort_below, sort_made, sorts_distinct}
use Rattle.sorts.specs.declared.codes.Sorts.{Sorts}
use Rattle.sorts.specs.codes.Sorted.{SortArrays}

-- a file has its sort records' sorts, and o
pub sorts_count : (rs : List Record) → length (sorts_of rs) ≡ suc (length (payloads sort rs))
unfolding sorts_of
sorts_count rs = grow_length sort_from (o ∷ []) (payloads sort rs) ∙ (omega arith)

module _ {rs : List Record} (ok : Passed rs) (bytes : (i : ℕ) → Bytes (get_or (payloads sort rs) i [])) (arrows : Sorts) (few : length (payloads sort rs) < 1000)
    (from_is : (i : ℕ) → i < length (payloads sort rs) → get_or arrows.froms.now (suc i) 0 ≡ word (get_or (payloads sort rs) i []) 0)
    (to_is : (i : ℕ) → i < length (payloads sort rs) → get_or arrows.tos.now (suc i) 0 ≡ word (get_or (payloads sort rs) i []) 2) where
  made_is : (i : ℕ) → 0 < i → i < suc (length (payloads sort rs)) → get_or (sorts_of rs) i o ≡ get_or (sorts_of rs) (get_or arrows.froms.now i 0) o ⇒ get_or (sorts_of rs) (get_or arrows.tos.now i 0) o
  unfolding sort_from
  made_is zero p h = absurd (omega arith)
  made_is (suc i) p h =
      let k = le_of_suc-le-suc h in
      sort_made ok bytes i k ∙ ap₂ (λ x y. get_or (sorts_of rs) x o ⇒ get_or (sorts_of rs) y o) (sym (from_is i k)) (sym (to_is i k))

  from_below_is : (i : ℕ) → 0 < i → i < suc (length (payloads sort rs)) → get_or arrows.froms.now i 0 < i
  from_below_is zero p h = absurd (omega arith)
  from_below_is (suc i) p h = let k = le_of_suc-le-suc h in let e = from_is i k in let b = (sort_below ok bytes i k).1 in omega arith

  to_below_is : (i : ℕ) → 0 < i → i < suc (length (payloads sort rs)) → get_or arrows.tos.now i 0 < i
  to_below_is zero p h = absurd (omega arith)
  to_below_is (suc i) p h = let k = le_of_suc-le-suc h in let e = to_is i k in let b = (sort_below ok bytes i k).2 in omega arith

  -- the arrays list the sorts of the file
  pub sort_arrays : SortArrays (sorts_of rs) arrows
  sort_arrays = record {
    few = let c = sorts_count rs in omega arith;
    positive = let c = sorts_count rs in omega arith;
    start = sort_zero rs;
    made = λ i p h. made_is i p (let c = sorts_count rs in omega arith);
    from_below = λ i p h. from_below_is i p (let c = sorts_count rs in omega arith);
    to_below = λ i p h. to_below_is i p (let c = sorts_count rs in omega arith);
    distinct = λ i j hi hj e. sorts_distinct ok bytes i j hi hj e;
  }

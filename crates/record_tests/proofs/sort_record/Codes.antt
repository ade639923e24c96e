-- The code of a sort record, by what the tests of the program found.
use Prim.Native.Nat.{ℕ, suc, ◌<◌, ◌≤◌}
use native.Mathlib.Omega.{arith}
use mathlib.Core.Path.{◌≡◌, refl, sym, ap, ◌∙◌}
use mathlib.Core.Bool.{Bool, true, false, ◌&&◌}
use mathlib.Core.List.{List, [], ◌∷◌}
use borrow.Author.Tests.{lt-ltb, le-ltb, le-leb, lt-leb, eq-eqb, leb-true, leb-false}
use lib.Dec.{leb, ltb, leb-suc-suc}
use lib.ListN.{length, get_or}
use Rattle.scheme.specs.Lists.{choose◌then◌else◌}
use Rattle.scheme.specs.Sorts.{o, arguments}
use Rattle.casefile.specs.Fields.{word}
use Rattle.casefile.specs.Records.{Record}
use Rattle.casefile.specs.Kinds.{sort, payloads}
use Rattle.casefile.specs.Tables.{sorts_of, sort_from}
use Rattle.casefile.specs.Refusals.{wrong_length, too_many, too_large, out_of_range, misplaced}
use Rattle.casefile.proofs.Growth.{grow_length}
use Rattle.casefile.proofs.TypeTable.{count_payloads}
use Rattle.index.specs.layout.Layout.{max_sorts}
use Rattle.index.specs.entries.Codes.{code_for}
use Rattle.index.specs.entries.Index.{Indexed}
use Rattle.index.specs.entries.Tests.{SortLens}
use Rattle.index.specs.repeats.Matching.{Repeats}

module _ (file index lens : List ℕ) (n : ℕ) (p : List ℕ) (rs : List Record) (ix : Indexed file index sort n rs) (sl : SortLens lens n rs) where
  sorts_many : length (sorts_of rs) ≡ suc n
  unfolding sorts_of
  sorts_many = grow_length sort_from (o ∷ []) (payloads sort rs) ∙ (let a = count_payloads sort rs in let b = ix.counted in omega arith)

  module _ (h : length p ≡ 4) (m : n < max_sorts) (from to a : ℕ) (ef : from ≡ word p 0) (et : to ≡ word p 2) (ea : a ≡ (choose leb to n then get_or lens to 0 else 0)) where
    -- the argument count of the sort that `to` names
    large : too_large rs p sort ≡ leb 8 a
    unfolding too_large
    large = by (leb to n) refl
      where
        by : (v : Bool) → leb to n ≡ v → (ltb (word p 2) (length (sorts_of rs)) && ltb 8 (suc (length (arguments (get_or (sorts_of rs) (word p 2) o))))) ≡ leb 8 a
        by true e =
            let l : to < suc n = (let q = leb-true to n e in omega arith) in
            let k : get_or lens to 0 ≡ a = sym (ea ∙ ap (λ v. choose v then get_or lens to 0 else 0) e) in
            let j : length (arguments (get_or (sorts_of rs) (word p 2) o)) ≡ a = ap (λ z. length (arguments (get_or (sorts_of rs) z o))) (sym et) ∙ sym (sl to l) ∙ k in
            simp (← et, sorts_many, lt-ltb to (suc n) l) (ap (λ z. ltb 8 (suc z)) (ap (λ z. length (arguments (get_or (sorts_of rs) z o))) et ∙ j) ∙ same_test a)
          where
            same_test : (x : ℕ) → ltb 8 (suc x) ≡ leb 8 x
            same_test x = leb-suc-suc 8 x
        by false e =
            let l : suc n ≤ to = leb-false to n e in
            let k : a ≡ 0 = ea ∙ ap (λ v. choose v then get_or lens to 0 else 0) e in
            simp (← et, sorts_many, le-ltb to (suc n) l, k)

    pub sort_large : 8 ≤ a → 5 ≡ code_for rs p sort
    unfolding code_for wrong_length too_many
    sort_large l = simp (eq-eqb (length p) 4 h, ix.counted, lt-leb max_sorts n m, large, le-leb 8 a l)

    pub sort_from_law : a < 8 → n < from → 6 ≡ code_for rs p sort
    unfolding code_for wrong_length too_many out_of_range
    sort_from_law l k = simp (eq-eqb (length p) 4 h, ix.counted, lt-leb max_sorts n m, large, lt-leb 8 a l, sorts_many, ← ef, le-leb (suc n) from k)

    pub sort_to : a < 8 → from ≤ n → n < to → 6 ≡ code_for rs p sort
    unfolding code_for wrong_length too_many out_of_range
    sort_to l k j = simp (eq-eqb (length p) 4 h, ix.counted, lt-leb max_sorts n m, large, lt-leb 8 a l, sorts_many, ← ef, ← et, lt-leb (suc n) from (omega arith), le-leb (suc n) to j)

    pub sort_rest : a < 8 → from ≤ n → to ≤ n → (r : Bool) → Repeats file index 0 n p r → code_for rs p sort ≡ (choose r then 7 else 0)
    unfolding code_for wrong_length too_many out_of_range misplaced
    sort_rest l k j r rep =
        simp (eq-eqb (length p) 4 h, ix.counted, lt-leb max_sorts n m, large, lt-leb 8 a l, sorts_many, ← ef, ← et, lt-leb (suc n) from (omega arith), lt-leb (suc n) to (omega arith), ← rep sort rs refl ix (omega arith) (omega arith))

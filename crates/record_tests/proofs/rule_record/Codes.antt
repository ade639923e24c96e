-- The code of a rule record, by what the tests of the program found.
use Prim.Native.Nat.{ℕ, suc, ◌+◌, ◌/◌, ◌%◌, ◌<◌, ◌≤◌}
use native.Mathlib.Omega.{arith}
use native.Mathlib.Nat.{add-zero}
use mathlib.Core.Path.{◌≡◌, sym, ap, subst, ◌∙◌}
use mathlib.Core.Bool.{Bool}
use mathlib.Core.List.{List, [], map}
use borrow.Author.Tests.{lt-ltb, le-ltb, le-leb, lt-leb, eq-eqb}
use lib.ListN.{length, get_or, length-map}
use Rattle.scheme.specs.Lists.{choose◌then◌else◌, any}
use Rattle.scheme.specs.Sorts.{o, arguments}
use Rattle.casefile.specs.Fields.{byte, word}
use Rattle.casefile.specs.Records.{Record}
use Rattle.casefile.specs.Kinds.{constructor, nonterminal, rule, payloads, count}
use Rattle.casefile.specs.Tables.{sorts_of, arities_of, signatures_of, cells_of}
use Rattle.casefile.specs.Refusals.{wrong_length, too_many, too_large, out_of_range, misplaced, wrong_cell_spec}
use Rattle.scheme.proofs.Lists.{get_d_map_in}
use Rattle.casefile.proofs.Cells.{cells_length}
use Rattle.casefile.proofs.TypeTable.{count_payloads}
use Rattle.index.specs.layout.Layout.{max_nonterminals, max_nodes, max_body, nonterminals_at}
use Rattle.index.specs.entries.Codes.{code_for}
use Rattle.index.specs.entries.Index.{Indexed}
use Rattle.index.specs.entries.Tests.{Fitting, SortLens}
use Rattle.index.proofs.entries.Earlier.{equal}

module _ (file index lens : List ℕ) (n sorts constructors nonterminals : ℕ) (p : List ℕ) (rs : List Record)
    (counted : count rule rs ≡ n) (sl : SortLens lens sorts rs) (cons : count constructor rs ≡ constructors)
    (ix : Indexed file index nonterminal nonterminals rs) (fit : Fitting nonterminal nonterminals rs) (few : nonterminals ≤ max_nonterminals)
    (listed : (i : ℕ) → i < nonterminals → word (get_or (payloads nonterminal rs) i []) 0 < suc sorts) where
  module _ (h : 4 ≤ length p) (e : length p % 4 ≡ 0) where
    pub rule_large : max_body < length p → 5 ≡ code_for rs p rule
    unfolding code_for wrong_length too_many too_large
    rule_large l = simp (le-ltb (length p) 4 h, eq-eqb (length p % 4) 0 e, cells_length p, lt-ltb max_nodes (length p / 4) (omega arith))

    signatures_many : length (signatures_of rs) ≡ nonterminals
    unfolding signatures_of
    signatures_many = length-map (payloads nonterminal rs) (λ (q : List ℕ). get_or (sorts_of rs) (word q 0) o) ∙ sym (count_payloads nonterminal rs) ∙ ix.counted

    pub rule_none : length p ≤ max_body → nonterminals ≤ n → 6 ≡ code_for rs p rule
    unfolding code_for wrong_length too_many too_large out_of_range
    rule_none l k = simp (le-ltb (length p) 4 h, eq-eqb (length p % 4) 0 e, cells_length p, le-ltb max_nodes (length p / 4) (omega arith), signatures_many, counted, le-leb nonterminals n k)

    -- the parameters of the rule's nonterminal
    module _ (k : n < nonterminals) (at s a : ℕ) (e-at : at ≡ get_or index (nonterminals_at + n) 0) (e-s : s ≡ word file at) (e-a : a ≡ get_or lens s 0) where
      own_sort : word (get_or (payloads nonterminal rs) n []) 0 ≡ s
      unfolding wrong_length
      own_sort =
          let two : length (get_or (payloads nonterminal rs) n []) ≡ 2 = equal (length (get_or (payloads nonterminal rs) n [])) 2 (fit n k) in
          sym (e-s ∙ ap (word file) (e-at ∙ sym (add-zero (get_or index (nonterminals_at + n) 0))) ∙ ix.field_there n k 2 0 (omega arith))

      parameters : length (arguments (get_or (signatures_of rs) n o)) ≡ a
      unfolding signatures_of
      parameters =
          let l : s < suc sorts = subst (λ z. z < suc sorts) own_sort (listed n k) in
          let at_n : get_or (signatures_of rs) n o ≡ get_or (sorts_of rs) s o = signature_at n k ∙ ap (λ z. get_or (sorts_of rs) z o) own_sort in
          ap (λ z. length (arguments z)) at_n ∙ sym (sl s l) ∙ sym e-a
        where
          signature_at : (i : ℕ) → i < nonterminals → get_or (map (λ (q : List ℕ). get_or (sorts_of rs) (word q 0) o) (payloads nonterminal rs)) i o ≡ get_or (sorts_of rs) (word (get_or (payloads nonterminal rs) i []) 0) o
          signature_at i j = get_d_map_in (λ (q : List ℕ). get_or (sorts_of rs) (word q 0) o) (payloads nonterminal rs) i o [] (subst (λ m. i < m) (sym ix.counted ∙ count_payloads nonterminal rs) j)

      pub rule_rest : length p ≤ max_body → (r : Bool) → r ≡ any (wrong_cell_spec constructors nonterminals a) (cells_of p) → code_for rs p rule ≡ (choose r then 6 else 0)
      unfolding code_for wrong_length too_many too_large out_of_range misplaced arities_of
      rule_rest l r er =
          simp (
            le-ltb (length p) 4 h,
            eq-eqb (length p % 4) 0 e,
            cells_length p,
            le-ltb max_nodes (length p / 4) (omega arith),
            signatures_many,
            counted,
            lt-leb nonterminals n k,
            parameters,
            length-map (payloads constructor rs) (λ (q : List ℕ). byte q 0),
            ← count_payloads constructor rs,
            cons,
            ← er,
          )

-- The tests of each kind, put to what the arrays of the walk hold.
use Prim.Native.Nat.{ℕ, suc, ◌+◌, ◌<◌, ◌≤◌}
use native.Mathlib.Omega.{arith}
use mathlib.Core.Path.{◌≡◌, sym, ap, subst, ◌∙◌}
use mathlib.Core.Bool.{false}
use mathlib.Core.List.{List, [], ◌∷◌}
use borrow.Author.Tests.{leb-false}
use lib.ListN.{length, get_or}
use Rattle.scheme.specs.Sorts.{o}
use Rattle.casefile.specs.Fields.{word}
use Rattle.casefile.specs.Records.{Record}
use Rattle.casefile.specs.Kinds.{Kind, sort, constructor, nonterminal, rule, states, transition, type, binding, number, kind_of, payloads, count}
use Rattle.casefile.specs.Tables.{sorts_of, sort_from, state_count_spec}
use Rattle.casefile.specs.Refusals.{wrong_length, out_of_range}
use Rattle.casefile.proofs.Passed.{count_append, entry, kind_of_number}
use Rattle.casefile.specs.Promises.{Passed}
use Rattle.casefile.proofs.Growth.{grow_length}
use Rattle.casefile.proofs.TypeTable.{count_payloads}
use Rattle.index.specs.layout.Layout.{max_nonterminals}
use Rattle.index.specs.entries.Codes.{code_for}
use Rattle.index.specs.entries.Index.{Indexed}
use Rattle.index.specs.entries.Chains.{Chained}
use Rattle.index.specs.entries.Tests.{Fitting, Tests, TestsNonterminal, TestsBinding, TestsTransition, SortLens, TestsSort, TestsRule, TestsType}
use Rattle.index.specs.entries.Known.{Known}
use Rattle.walk.specs.kinds.Codes.{code_as}

-- one sort more than listed
pub sorts_length : (rs : List Record) → length (sorts_of rs) ≡ suc (count sort rs)
unfolding sorts_of
sorts_length rs = grow_length sort_from (o ∷ []) (payloads sort rs) ∙ (let a = count_payloads sort rs in omega arith)

module _ (file index lens counts : List ℕ) (rs : List Record) (known : Known file index lens counts rs) (ok : Passed rs) where
  -- how many of a kind
  abbrev many : Kind → ℕ
  many k = get_or counts (number k) 0

  payload_count : (k : Kind) → length (payloads k rs) ≡ many k
  payload_count k = sym (count_payloads k rs) ∙ (known.entries k).counted

  -- earlier records passed 4
  pub fitting : (k : Kind) → Fitting k (many k) rs
  fitting k i h =
      let n = entry ok k i (subst (λ m. i < m) (sym (payload_count k)) h) in
      subst (λ z. wrong_length k (length z) ≡ false) (sym n.here) n.passed_tests.fits

  -- a nonterminal's sort is listed
  pub sort_listed : (i : ℕ) → i < many nonterminal → word (get_or (payloads nonterminal rs) i []) 0 < suc (many sort)
  unfolding out_of_range
  sort_listed i h =
      let n = entry ok nonterminal i (subst (λ m. i < m) (sym (payload_count nonterminal)) h) in
      let below = leb-false (length (sorts_of n.earlier)) (word n.payload 0) n.passed_tests.ranges in
      let a = sorts_length n.earlier in
      let b = count_append sort n.earlier n.later in
      let c = ap (count sort) n.together in
      let d = (known.entries sort).counted in
      subst (λ z. word z 0 < suc (many sort)) (sym n.here) (omega arith)

  module _ (p : List ℕ) where
    -- the code of a record of a known kind
    as_kind : (k : Kind) (r : ℕ) → r ≡ code_for rs p k → r ≡ code_as rs p (kind_of (number k))
    unfolding code_as
    as_kind k r f = f ∙ sym (ap (code_as rs p) (kind_of_number k))

    module _ (k : Kind) (n : ℕ) (so_many : n ≡ many k) (r : ℕ) where
      here : Indexed file index k n rs
      here = subst (λ z. Indexed file index k z rs) (sym so_many) (known.entries k)

      fit : Fitting k n rs
      fit = subst (λ z. Fitting k z rs) (sym so_many) (fitting k)

      pub of_count : Tests k n p r → r ≡ code_as rs p (kind_of (number k))
      of_count t = as_kind k r (t rs here.counted)

    module _ (n : ℕ) (r : ℕ) where
      pub of_sort : n ≡ many sort → TestsSort file index lens n p r → r ≡ code_as rs p (kind_of (number sort))
      unfolding number
      of_sort e t = as_kind sort r (t rs (here sort n e r) (subst (λ z. SortLens lens z rs) (sym e) known.sort_lens))

      pub of_nonterminal : n ≡ many nonterminal → (sorts : ℕ) → sorts ≡ many sort → TestsNonterminal (sorts + 1) n p r → r ≡ code_as rs p (kind_of (number nonterminal))
      of_nonterminal e sorts es t = as_kind nonterminal r (t rs (here nonterminal n e r).counted (sorts_length rs ∙ (let d = (known.entries sort).counted in omega arith)))

      pub of_rule : n ≡ many rule → (constructors nonterminals : ℕ) → constructors ≡ many constructor → nonterminals ≡ many nonterminal
          → ((sorts : ℕ) → TestsRule file index lens n sorts constructors nonterminals p r) → r ≡ code_as rs p (kind_of (number rule))
      unfolding number
      of_rule e cs ns ec en t =
          as_kind rule r (t (many sort) rs (here rule n e r).counted known.sort_lens (here constructor cs ec r).counted (here nonterminal ns en r) (fit nonterminal ns en r)
          (subst (λ z. z ≤ max_nonterminals) (sym en) (known.fits nonterminal)) (λ i h. sort_listed i (subst (λ z. i < z) en h)))

      pub of_transition : n ≡ many transition → (states constructors : ℕ) → states ≡ state_count_spec rs → constructors ≡ many constructor → TestsTransition file index n states constructors p r → r ≡ code_as rs p (kind_of (number transition))
      of_transition e qs cs eq ec t = as_kind transition r (t rs (here transition n e r) (fit transition n e r) (sym eq) (here constructor cs ec r) (fit constructor cs ec r))

      pub of_type_law : n ≡ many type → (states : ℕ) → states ≡ state_count_spec rs → TestsType file index n states p r → r ≡ code_as rs p (kind_of (number type))
      unfolding number
      of_type_law e qs eq t = as_kind type r (t rs (here type n e r) (sym eq) (subst (Chained index (payloads type rs)) (sym e) known.chained))

      pub of_binding : n ≡ many binding → (nonterminals types : ℕ) → nonterminals ≡ many nonterminal → types ≡ many type → TestsBinding file index n nonterminals types p r → r ≡ code_as rs p (kind_of (number binding))
      of_binding e ns ts en et t = as_kind binding r (t rs (here binding n e r) (fit binding n e r) (here nonterminal ns en r).counted (here type ts et r).counted)

  -- the number of states, as the program counts them
  pub states_are : (n r : ℕ) → n ≡ many states → ((rs : List Record) → Indexed file index states n rs → Fitting states n rs → n ≤ 1 → r ≡ state_count_spec rs) → r ≡ state_count_spec rs
  unfolding number
  states_are n r e t =
      t rs (subst (λ z. Indexed file index states z rs) (sym e) (known.entries states)) (subst (λ z. Fitting states z rs) (sym e) (fitting states)) (subst (λ z. z ≤ 1) (sym e) (known.fits states))

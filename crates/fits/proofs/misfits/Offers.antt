-- What records that passed their tests offer: the numbers in bindings and nonterminals have entries.
use Prim.Native.Nat.{ℕ, suc, ◌<◌, ◌≤◌}
use native.Mathlib.Omega.{arith}
use native.Mathlib.Decide.{dec_lt}
use mathlib.Core.Path.{◌≡◌, refl, sym, ap, subst, ◌∙◌}
use mathlib.Core.Bool.{Bool, true, false}
use mathlib.Core.List.{List, [], ◌∷◌, ◌++◌}
use borrow.Author.Tests.{leb-false}
use lib.Dec.{eqb, leb}
use lib.ListN.{length, get_or, length-append, get_or-append}
use lib.Seq.{get_or-append_seam}
use Rattle.scheme.specs.Lists.{select}
use Rattle.scheme.specs.Sorts.{o}
use Rattle.scheme.proofs.Lists.{or_false}
use Rattle.casefile.specs.Fields.{word}
use Rattle.casefile.specs.Records.{Record}
use Rattle.casefile.specs.Kinds.{Kind, sort, nonterminal, type, binding, number, of_kind, payloads, count}
use Rattle.casefile.specs.Tables.{sort_from, sorts_of}
use Rattle.casefile.specs.Refusals.{wrong_length, out_of_range}
use Rattle.casefile.proofs.Growth.{grow_length}
use Rattle.casefile.proofs.Passed.{count_fewer, Tested, passed_tested, payloads_more, payloads_other}
use Rattle.casefile.specs.Promises.{Passed, nothing, also}
use Rattle.casefile.proofs.TypeTable.{count_payloads}
use Rattle.index.specs.layout.Layout.{max_bindings}
use Rattle.index.specs.entries.Index.{Indexed}
use Rattle.fits.specs.fits.Filled.{Fitted, TypesAndSorts}
use Rattle.fits.specs.declared.masks.Row.{Row}
use Rattle.fits.specs.misfits.Misfits.{Offered}

-- what a tested record of a kind has, and more records leave, each record of the kind has
module _ (k : Kind) (Q : List Record → List ℕ → Type 0)
    (stays : (rs : List Record) (r : Record) (p : List ℕ) → Q rs p → Q (rs ++ (r ∷ [])) p)
    (tested : (rs : List Record) (p : List ℕ) → Tested rs p k → Q rs p) where
  each : {rs : List Record} → Passed rs → (i : ℕ) → i < length (payloads k rs) → Q rs (get_or (payloads k rs) i [])
  unfolding payloads of_kind select
  each nothing i h = absurd (omega arith)
  each (also {rs} r ok e) i h = go (eqb r.kind (number k)) refl (λ l. each ok i l)
    where
      go : (b : Bool) → eqb r.kind (number k) ≡ b → (i < length (payloads k rs) → Q rs (get_or (payloads k rs) i [])) → Q (rs ++ (r ∷ [])) (get_or (payloads k (rs ++ (r ∷ []))) i [])
      go false f ih =
          let same = payloads_other k rs r f in
          stays rs r (get_or (payloads k (rs ++ (r ∷ []))) i []) (subst (λ l. Q rs (get_or l i [])) (sym same) (ih (subst (λ l. i < length l) same h)))
      go true f ih = by (dec_lt i (length (payloads k rs)))
        where
          more : get_or (payloads k (rs ++ (r ∷ []))) i [] ≡ get_or (payloads k rs ++ (r.payload ∷ [])) i []
          more = ap (λ l. get_or l i []) (payloads_more k rs r f)

          by : Dec (i < length (payloads k rs)) → Q (rs ++ (r ∷ [])) (get_or (payloads k (rs ++ (r ∷ []))) i [])
          by (yes l) = stays rs r (get_or (payloads k (rs ++ (r ∷ []))) i []) (subst (Q rs) (sym (more ∙ get_or-append (payloads k rs) (r.payload ∷ []) [] i l)) (ih l))
          by (no l) =
              let h' : i < length (payloads k rs ++ (r.payload ∷ [])) = subst (λ z. i < length z) (payloads_more k rs r f) h in
              let n = length-append (payloads k rs) (r.payload ∷ []) in
              let last : i ≡ length (payloads k rs) = omega arith in
              let here : get_or (payloads k (rs ++ (r ∷ []))) i [] ≡ r.payload = more ∙ ap (λ j. get_or (payloads k rs ++ (r.payload ∷ [])) j []) last ∙ get_or-append_seam (payloads k rs) r.payload [] [] in
              stays rs r (get_or (payloads k (rs ++ (r ∷ []))) i []) (subst (Q rs) (sym here) (tested rs r.payload (passed_tested rs r k e f)))

sorts_counted : (rs : List Record) → length (sorts_of rs) ≡ suc (count sort rs)
unfolding sorts_of
sorts_counted rs = let a = grow_length sort_from (o ∷ []) (payloads sort rs) in let b = count_payloads sort rs in omega arith

module _ {rs : List Record} (ok : Passed rs) where
  whole : (k : Kind) (i : ℕ) → i < length (payloads k rs) → wrong_length k (length (get_or (payloads k rs) i [])) ≡ false
  whole k = each k (λ rs p. wrong_length k (length p) ≡ false) (λ rs r p q. q) (λ rs p t. t.fits) ok

  -- the numbers in a binding have entries
  pub binding_numbers : (i : ℕ) → i < length (payloads binding rs) → (word (get_or (payloads binding rs) i []) 0 < count nonterminal rs) × (word (get_or (payloads binding rs) i []) 2 < count type rs)
  unfolding out_of_range
  binding_numbers =
      each binding (λ rs p. (word p 0 < count nonterminal rs) × (word p 2 < count type rs))
      (λ rs r p q. let a = count_fewer nonterminal rs (r ∷ []) in let b = count_fewer type rs (r ∷ []) in (omega arith, omega arith))
      (λ rs p t. let (a, b) = or_false (leb (count nonterminal rs) (word p 0)) (leb (count type rs) (word p 2)) t.ranges in
      (leb-false (count nonterminal rs) (word p 0) a, leb-false (count type rs) (word p 2) b)) ok

  nonterminal_sort : (i : ℕ) → i < length (payloads nonterminal rs) → word (get_or (payloads nonterminal rs) i []) 0 ≤ count sort rs
  unfolding out_of_range
  nonterminal_sort =
      each nonterminal (λ rs p. word p 0 ≤ count sort rs)
      (λ rs r p q. let a = count_fewer sort rs (r ∷ []) in omega arith)
      (λ rs p t. let a = leb-false (length (sorts_of rs)) (word p 0) t.ranges in let b = sorts_counted rs in omega arith) ok

  -- so the first misfit of such records is found by the index and a table that has their types and sorts
  pub offered : {file index : List ℕ} (fit : List Row) {bindings nonterminals types sorts : ℕ} → Indexed file index binding bindings rs → bindings ≤ max_bindings
      → Indexed file index nonterminal nonterminals rs → TypesAndSorts file index types sorts rs → Fitted fit types sorts rs → Offered file index fit bindings nonterminals types sorts rs
  offered fit bs few ns listed table =
      let b = count_payloads binding rs in
      let n = count_payloads nonterminal rs in
      let ts = listed.types_there in
      let ss = listed.sorts_there in
      record {
        bindings_there = bs;
        bindings_whole = λ i h. whole binding i (omega arith);
        few_bindings = few;
        nonterminals_there = ns;
        nonterminals_whole = λ i h. whole nonterminal i (omega arith);
        nonterminals_named = λ i h. let q = binding_numbers i (omega arith) in omega arith;
        types_named = λ i h. let q = binding_numbers i (omega arith) in omega arith;
        sorts_named = λ i h. let q = nonterminal_sort i (omega arith) in omega arith;
        listed = listed;
        table = table;
      }

-- The arrays hold what the bodies of a file are judged by.
use Prim.Native.Nat.{ℕ, zero, suc, ◌+◌, ◌%◌, ◌<◌, ◌≤◌}
use native.Mathlib.Omega.{arith}
use native.Mathlib.Nat.{zero-add}
use mathlib.Core.Path.{◌≡◌, refl, sym, ap, subst, ◌∙◌}
use mathlib.Core.Bool.{Bool, false, ◌||◌, not}
use mathlib.Core.List.{List, [], ◌∷◌, ◌++◌, map}
use borrow.Author.Tests.{leb-false, ltb-false, lt-leb, eqb-true, not-false}
use lib.Dec.{eqb, leb, ltb}
use lib.ListN.{length, get_or, take, length-map, length-append, get_or-append}
use lib.Seq.{ext_get_or, get_or-take, length-take-le}
use Rattle.scheme.specs.Lists.{any}
use Rattle.scheme.specs.Sorts.{Sort, o, arguments}
use Rattle.scheme.proofs.Lists.{or_false, get_d_map_in}
use Rattle.casefile.specs.Fields.{field, byte, word}
use Rattle.casefile.specs.Records.{Record}
use Rattle.casefile.specs.Kinds.{Kind, sort, constructor, nonterminal, rule, payloads, count}
use Rattle.casefile.specs.Tables.{grow, sort_from, sorts_of, arities_of, signatures_of, Cell, cells_of}
use Rattle.casefile.specs.Refusals.{wrong_length, too_many, too_large, out_of_range, wrong_cell_spec}
use Rattle.casefile.proofs.Growth.{grow_append, grow_grown, grown}
use Rattle.casefile.proofs.Passed.{entry}
use Rattle.casefile.specs.Promises.{Passed}
use Rattle.casefile.proofs.Payloads.{payloads_append, arity_small}
use Rattle.casefile.proofs.TypeTable.{count_payloads}
use Rattle.index.specs.layout.Layout.{max_constructors, max_nonterminals, max_nodes, max_body, sorts_at, constructors_at, nonterminals_at, all_sorts}
use Rattle.index.specs.entries.Index.{base, Indexed}
use Rattle.sorts.specs.codes.Sorted.{SortArrays, TreeCodes}
use Rattle.bodies.specs.declared.Heads.{Heads}
use Rattle.bodies.specs.Bodies.{BodyTables}
use Rattle.sorts.proofs.codes.FileSorts.{sorts_count, sort_arrays}
use Rattle.casefile.proofs.Cells.{cells_length}
use Rattle.rules.specs.rules.Rules.{Filled, Filed}
use Rattle.rules.specs.reading.RuleBodies.{rule_of, numbers_of, Judged}

-- More records leave what the tables have.
payloads_stay : (k : Kind) (xs ys : List Record) (i : ℕ) → i < length (payloads k xs) → get_or (payloads k (xs ++ ys)) i [] ≡ get_or (payloads k xs) i []
payloads_stay k xs ys i h = ap (λ l. get_or l i []) (payloads_append k xs ys) ∙ get_or-append (payloads k xs) (payloads k ys) [] i h

payloads_grow : (k : Kind) (xs ys : List Record) → length (payloads k xs) ≤ length (payloads k (xs ++ ys))
payloads_grow k xs ys = let e = ap length (payloads_append k xs ys) ∙ length-append (payloads k xs) (payloads k ys) in omega arith

sorts_append : (xs ys : List Record) → sorts_of (xs ++ ys) ≡ sorts_of xs ++ grown sort_from (sorts_of xs) (payloads sort ys)
unfolding sorts_of
sorts_append xs ys =
    ap (grow sort_from (o ∷ [])) (payloads_append sort xs ys) ∙ grow_append sort_from (o ∷ []) (payloads sort xs) (payloads sort ys)
    ∙ grow_grown sort_from (grow sort_from (o ∷ []) (payloads sort xs)) (payloads sort ys)

sorts_stay : (xs ys : List Record) (i : ℕ) → i < length (sorts_of xs) → get_or (sorts_of (xs ++ ys)) i o ≡ get_or (sorts_of xs) i o
sorts_stay xs ys i h = ap (λ l. get_or l i o) (sorts_append xs ys) ∙ get_or-append (sorts_of xs) (grown sort_from (sorts_of xs) (payloads sort ys)) o i h

sorts_grow : (xs ys : List Record) → length (sorts_of xs) ≤ length (sorts_of (xs ++ ys))
sorts_grow xs ys = let e = ap length (sorts_append xs ys) ∙ length-append (sorts_of xs) (grown sort_from (sorts_of xs) (payloads sort ys)) in omega arith

-- the sort of a nonterminal by its number
pub signature_at : (rs : List Record) (i : ℕ) → i < length (payloads nonterminal rs) → get_or (signatures_of rs) i o ≡ get_or (sorts_of rs) (word (get_or (payloads nonterminal rs) i []) 0) o
unfolding signatures_of
signature_at rs i h = get_d_map_in (λ (p : List ℕ). get_or (sorts_of rs) (word p 0) o) (payloads nonterminal rs) i o [] h

pub signatures_length : (rs : List Record) → length (signatures_of rs) ≡ length (payloads nonterminal rs)
unfolding signatures_of
signatures_length rs = length-map (payloads nonterminal rs) (λ (p : List ℕ). get_or (sorts_of rs) (word p 0) o)

arities_length : (rs : List Record) → length (arities_of rs) ≡ length (payloads constructor rs)
unfolding arities_of
arities_length rs = length-map (payloads constructor rs) (λ (p : List ℕ). byte p 0)

-- What each record passed.
module _ {rs : List Record} (ok : Passed rs) where
  whole : (k : Kind) (i : ℕ) → i < length (payloads k rs) → wrong_length k (length (get_or (payloads k rs) i [])) ≡ false
  whole k i h = let n = entry ok k i h in subst (λ z. wrong_length k (length z) ≡ false) (sym n.here) n.passed_tests.fits

  pub one_byte_long : (i : ℕ) → i < length (payloads constructor rs) → length (get_or (payloads constructor rs) i []) ≡ 1
  unfolding wrong_length
  one_byte_long i h = let p = get_or (payloads constructor rs) i [] in eqb-true (length p) 1 (not-false (eqb (length p) 1) (whole constructor i h))

  pub two_bytes_long : (i : ℕ) → i < length (payloads nonterminal rs) → length (get_or (payloads nonterminal rs) i []) ≡ 2
  unfolding wrong_length
  two_bytes_long i h = let p = get_or (payloads nonterminal rs) i [] in eqb-true (length p) 2 (not-false (eqb (length p) 2) (whole nonterminal i h))

  pub four_bytes_long : (i : ℕ) → i < length (payloads sort rs) → length (get_or (payloads sort rs) i []) ≡ 4
  unfolding wrong_length
  four_bytes_long i h = let p = get_or (payloads sort rs) i [] in eqb-true (length p) 4 (not-false (eqb (length p) 4) (whole sort i h))

  -- a nonterminal's sort is listed
  pub sort_listed : (i : ℕ) → i < length (payloads nonterminal rs) → word (get_or (payloads nonterminal rs) i []) 0 < length (sorts_of rs)
  unfolding out_of_range
  sort_listed i h =
      let n = entry ok nonterminal i h in
      let below = leb-false (length (sorts_of n.earlier)) (word n.payload 0) n.passed_tests.ranges in
      let grows : length (sorts_of n.earlier) ≤ length (sorts_of rs) = subst (λ z. length (sorts_of n.earlier) ≤ length (sorts_of z)) n.together (sorts_grow n.earlier n.later) in
      subst (λ z. word z 0 < length (sorts_of rs)) (sym n.here) (omega arith)

-- the sort of a nonterminal stays
signatures_stay : {xs : List Record} (ys : List Record) → Passed xs → (i : ℕ) → i < length (signatures_of xs) → get_or (signatures_of (xs ++ ys)) i o ≡ get_or (signatures_of xs) i o
signatures_stay {xs} ys ok i h =
    let h' : i < length (payloads nonterminal xs) = (let e = signatures_length xs in omega arith) in
    signature_at (xs ++ ys) i (let g = payloads_grow nonterminal xs ys in omega arith)
    ∙ ap (λ p. get_or (sorts_of (xs ++ ys)) (word p 0) o) (payloads_stay nonterminal xs ys i h')
    ∙ sorts_stay xs ys (word (get_or (payloads nonterminal xs) i []) 0) (sort_listed ok i h') ∙ sym (signature_at xs i h')

-- Nodes in range stay in range where there are more entries.
any_fewer : {A : Type 0} (p q : A → Bool) (l : List A) → ((x : A) → p x ≡ false → q x ≡ false) → any p l ≡ false → any q l ≡ false
unfolding any
any_fewer p q [] f e = refl
any_fewer p q (x ∷ l) f e =
    let (a, b) = or_false (p x) (any p l) e in
    let c = f x a in
    let d = any_fewer p q l f b in
    rw (c, d) refl

range_wider : (c n m c' n' tag x : ℕ) → c ≤ c' → n ≤ n' → leb (get_or (c ∷ n ∷ []) tag m) x ≡ false → leb (get_or (c' ∷ n' ∷ []) tag m) x ≡ false
range_wider c n m c' n' zero x hc hn e = let l = leb-false c x e in lt-leb c' x (omega arith)
range_wider c n m c' n' (suc zero) x hc hn e = let l = leb-false n x e in lt-leb n' x (omega arith)
range_wider c n m c' n' (suc (suc t)) x hc hn e = e

cell_wider : (c n m c' n' : ℕ) → c ≤ c' → n ≤ n' → (x : Cell) → wrong_cell_spec c n m x ≡ false → wrong_cell_spec c' n' m x ≡ false
unfolding wrong_cell_spec
cell_wider c n m c' n' hc hn x e =
    let (ab, d) = or_false (ltb 2 x.tag || leb (get_or (c ∷ n ∷ []) x.tag m) x.number) (ltb 8 x.count) e in
    let (a, b) = or_false (ltb 2 x.tag) (leb (get_or (c ∷ n ∷ []) x.tag m) x.number) ab in
    let b' = range_wider c n m c' n' x.tag x.number hc hn b in
    rw (a, b', d) refl

-- Rule f of records that passed.
module _ {rs : List Record} (ok : Passed rs) (f : ℕ) (h : f < length (payloads rule rs)) where
  pub rule_some : 4 ≤ length (rule_of rs f)
  unfolding wrong_length
  rule_some = let p = rule_of rs f in ltb-false (length p) 4 (or_false (ltb (length p) 4) (not (eqb (length p % 4) 0)) (whole ok rule f h)).0

  pub rule_fits : length (rule_of rs f) ≤ max_body
  unfolding wrong_length too_many too_large
  rule_fits =
      let n = entry ok rule f h in
      let p = n.payload in
      let few = ltb-false max_nodes (length (cells_of p)) (or_false false (ltb max_nodes (length (cells_of p))) n.passed_tests.few).1 in
      let e = cells_length p in
      let q = (or_false (ltb (length p) 4) (not (eqb (length p % 4) 0)) n.passed_tests.fits).1 in
      let m = eqb-true (length p % 4) 0 (not-false (eqb (length p % 4) 0) q) in
      subst (λ z. length z ≤ max_body) (sym n.here) (omega arith)

  pub rule_in_range : any (wrong_cell_spec (length (arities_of rs)) (length (numbers_of rs)) (length (arguments (get_or (signatures_of rs) f o)))) (cells_of (rule_of rs f)) ≡ false
  unfolding out_of_range
  rule_in_range =
      let n = entry ok rule f h in
      let xs = n.earlier in
      let ys = n.later in
      let at_f : count rule xs ≡ f = count_payloads rule xs ∙ ap length n.before ∙ length-take-le f (payloads rule rs) (omega arith) in
      let (a, b) = or_false (leb (length (signatures_of xs)) (count rule xs)) (any (wrong_cell_spec (length (arities_of xs)) (length (signatures_of xs)) (length (arguments (get_or (signatures_of xs) (count rule xs) o)))) (cells_of n.payload)) n.passed_tests.ranges in
      let a' = leb-false (length (signatures_of xs)) (count rule xs) a in
      let cs : length (arities_of xs) ≤ length (arities_of rs) = (
      let g = subst (λ z. length (payloads constructor xs) ≤ length (payloads constructor z)) n.together (payloads_grow constructor xs ys) in
      let l = arities_length xs in
      let m = arities_length rs in
      omega arith) in
      let ns : length (signatures_of xs) ≤ length (numbers_of rs) = (
      let g = subst (λ z. length (payloads nonterminal xs) ≤ length (payloads nonterminal z)) n.together (payloads_grow nonterminal xs ys) in
      let l = signatures_length xs in
      let m = length-map (payloads nonterminal rs) (λ (p : List ℕ). word p 0) in
      omega arith) in
      let same : get_or (signatures_of xs) (count rule xs) o ≡ get_or (signatures_of rs) f o =
      sym (subst (λ z. get_or (signatures_of z) (count rule xs) o ≡ get_or (signatures_of xs) (count rule xs) o) n.together (signatures_stay ys n.passed (count rule xs) a')) ∙ ap (λ k. get_or (signatures_of rs) k o) at_f in
      let b' = subst (λ z. any (wrong_cell_spec (length (arities_of xs)) (length (signatures_of xs)) (length (arguments z))) (cells_of n.payload) ≡ false) same b in
      let m = length (arguments (get_or (signatures_of rs) f o)) in
      let wide = any_fewer (wrong_cell_spec (length (arities_of xs)) (length (signatures_of xs)) m) (wrong_cell_spec (length (arities_of rs)) (length (numbers_of rs)) m) (cells_of n.payload)
      (cell_wider (length (arities_of xs)) (length (signatures_of xs)) m (length (arities_of rs)) (length (numbers_of rs)) cs ns) b' in
      subst (λ z. any (wrong_cell_spec (length (arities_of rs)) (length (numbers_of rs)) m) (cells_of z) ≡ false) (sym n.here) wide

-- A table that was filled by the index has the fields of a kind.
module _ {file index : List ℕ} {rs : List Record} (k : Kind) (n : ℕ) (there : Indexed file index k n rs) (w : ℕ) (wide : 1 ≤ w) (narrow : w ≤ 2) where
  field_in : (at to : ℕ) (z t : List ℕ) → Filled w file index (base k) at n to z t → (i : ℕ) → i < n → at + w ≤ length (get_or (payloads k rs) i [])
      → get_or t (to + i) 0 ≡ field w (get_or (payloads k rs) i []) at
  field_in at to z t fi i h l = fi.there wide narrow i h ∙ there.field_there i h w at l

  counted : length (payloads k rs) ≡ n
  counted = sym (count_payloads k rs) ∙ there.counted

  field_at : (z t : List ℕ) → Filled w file index (base k) 0 n 0 z t → (i : ℕ) → i < n → w ≤ length (get_or (payloads k rs) i []) → get_or t i 0 ≡ field w (get_or (payloads k rs) i []) 0
  field_at z t fi i h l = ap (λ j. get_or t j 0) (sym (zero-add i)) ∙ field_in 0 0 z t fi i h (omega arith)

  fields_are : (z t : List ℕ) → Filled w file index (base k) 0 n 0 z t → n ≤ length z → ((i : ℕ) → i < length (payloads k rs) → w ≤ length (get_or (payloads k rs) i []))
      → take (length (map (λ (p : List ℕ). field w p 0) (payloads k rs))) t ≡ map (λ (p : List ℕ). field w p 0) (payloads k rs)
  fields_are z t fi room long =
      let vs = map (λ (p : List ℕ). field w p 0) (payloads k rs) in
      let e : length vs ≡ n = length-map (payloads k rs) (λ (p : List ℕ). field w p 0) ∙ counted in
      let q = fi.long in
      let c = counted in
      let l : length (take (length vs) t) ≡ length vs = length-take-le (length vs) t (omega arith) in
      ext_get_or 0 (take (length vs) t) vs l
      (λ i hi. get_or-take (length vs) t i 0 (omega arith) ∙ field_at z t fi i (omega arith) (long i (omega arith)) ∙ sym (get_d_map_in (λ (p : List ℕ). field w p 0) (payloads k rs) i 0 [] (omega arith)))

module _ {file index : List ℕ} {sorts constructors nonterminals rules : ℕ} {rs : List Record} (fi : Filed file index sorts constructors nonterminals rules rs)
    (z₁ z₂ z₃ z₄ t₁ t₂ : List ℕ) (heads : Heads) (e₁ : heads.sorts.froms.now ≡ take (sorts + 1) t₁) (e₂ : heads.sorts.tos.now ≡ take (sorts + 1) t₂) (l₁ : length z₁ ≡ all_sorts) (l₂ : length z₂ ≡ all_sorts) (l₃ : length z₃ ≡ max_constructors) (l₄ : length z₄ ≡ max_nonterminals)
    (from-filled : Filled 2 file index sorts_at 0 sorts 1 z₁ t₁) (to-filled : Filled 2 file index sorts_at 2 sorts 1 z₂ t₂)
    (arity-filled : Filled 1 file index constructors_at 0 constructors 0 z₃ heads.arities.now) (signature-filled : Filled 2 file index nonterminals_at 0 nonterminals 0 z₄ heads.signatures.now)
    (codes : (ss : List Sort) → SortArrays ss heads.sorts → sorts + 1 ≡ length ss → TreeCodes ss heads.trees.now) where
  -- the arrays
  abbrev froms : List ℕ
  froms = heads.sorts.froms.now

  abbrev tos : List ℕ
  tos = heads.sorts.tos.now

  abbrev arities : List ℕ
  arities = heads.arities.now

  abbrev signatures : List ℕ
  signatures = heads.signatures.now

  sorts_counted : length (payloads sort rs) ≡ sorts
  sorts_counted = sym (count_payloads sort rs) ∙ fi.sorts_there.counted

  nonterminals_counted : length (payloads nonterminal rs) ≡ nonterminals
  nonterminals_counted = sym (count_payloads nonterminal rs) ∙ fi.nonterminals_there.counted

  rules_counted : length (payloads rule rs) ≡ rules
  rules_counted = sym (count_payloads rule rs) ∙ fi.rules_there.counted

  from_is : (i : ℕ) → i < length (payloads sort rs) → get_or froms (suc i) 0 ≡ word (get_or (payloads sort rs) i []) 0
  from_is i h =
      let e : suc i ≡ 1 + i = omega arith in
      let c = sorts_counted in
      let s = fi.few_sorts in
      let q = four_bytes_long fi.passed i h in
      ap (λ t. get_or t (suc i) 0) e₁ ∙ get_or-take (sorts + 1) t₁ (suc i) 0 (omega arith) ∙ ap (λ j. get_or t₁ j 0) e ∙ field_in sort sorts fi.sorts_there 2 (omega arith) (omega arith) 0 1 z₁ t₁ from-filled i (omega arith) (omega arith)

  to_is : (i : ℕ) → i < length (payloads sort rs) → get_or tos (suc i) 0 ≡ word (get_or (payloads sort rs) i []) 2
  to_is i h =
      let e : suc i ≡ 1 + i = omega arith in
      let c = sorts_counted in
      let s = fi.few_sorts in
      let q = four_bytes_long fi.passed i h in
      ap (λ t. get_or t (suc i) 0) e₂ ∙ get_or-take (sorts + 1) t₂ (suc i) 0 (omega arith) ∙ ap (λ j. get_or t₂ j 0) e ∙ field_in sort sorts fi.sorts_there 2 (omega arith) (omega arith) 2 1 z₂ t₂ to-filled i (omega arith) (omega arith)

  arrays : SortArrays (sorts_of rs) heads.sorts
  arrays = sort_arrays fi.passed fi.sort_bytes heads.sorts (let c = sorts_counted in let s = fi.few_sorts in omega arith) from_is to_is

  tree_codes : TreeCodes (sorts_of rs) heads.trees.now
  tree_codes =
      let c = sorts_counted in
      let many : sorts + 1 ≡ suc (length (payloads sort rs)) = omega arith in
      codes (sorts_of rs) arrays (many ∙ sym (sorts_count rs))

  number_at : (f : ℕ) → f < nonterminals → get_or signatures f 0 ≡ word (get_or (payloads nonterminal rs) f []) 0
  number_at f h =
      let c = nonterminals_counted in
      let s = fi.few_nonterminals in
      let q = two_bytes_long fi.passed f (omega arith) in
      field_at nonterminal nonterminals fi.nonterminals_there 2 (omega arith) (omega arith) z₄ signatures signature-filled f h (omega arith)

  sort_of_law : (f : ℕ) → f < nonterminals → get_or (sorts_of rs) (get_or signatures f 0) o ≡ get_or (signatures_of rs) f o
  sort_of_law f h = ap (λ n. get_or (sorts_of rs) n o) (number_at f h) ∙ sym (signature_at rs f (let c = nonterminals_counted in omega arith))

  arities_are : take (length (arities_of rs)) arities ≡ arities_of rs
  unfolding arities_of
  arities_are =
      let s = fi.few_constructors in
      fields_are constructor constructors fi.constructors_there 1 (omega arith) (omega arith) z₃ arities arity-filled (omega arith) (λ i h. let q = one_byte_long fi.passed i h in omega arith)

  numbers_are : take (length (numbers_of rs)) signatures ≡ numbers_of rs
  numbers_are =
      let s = fi.few_nonterminals in
      fields_are nonterminal nonterminals fi.nonterminals_there 2 (omega arith) (omega arith) z₄ signatures signature-filled (omega arith) (λ i h. let q = two_bytes_long fi.passed i h in omega arith)

  number_below : (f : ℕ) → f < length (numbers_of rs) → get_or (numbers_of rs) f 0 < length (sorts_of rs)
  number_below f h =
      let h' : f < length (payloads nonterminal rs) = (let l = length-map (payloads nonterminal rs) (λ (p : List ℕ). word p 0) in omega arith) in
      subst (λ n. n < length (sorts_of rs)) (sym (get_d_map_in (λ (p : List ℕ). word p 0) (payloads nonterminal rs) f 0 [] h')) (sort_listed fi.passed f h')

  setting_at : (f : ℕ) → f < rules → BodyTables (sorts_of rs) (arities_of rs) (numbers_of rs) (rule_of rs f) heads (get_or signatures f 0)
  setting_at f h =
      let h' : f < nonterminals = (let l = fi.few_rules in omega arith) in
      record {
        coded = record { table = arrays; constructors = tree_codes };
        counts_are = arities_are;
        counts_small = arity_small fi.passed;
        numbers_are = numbers_are;
        numbers_below = number_below;
        own_below = subst (λ n. n < length (sorts_of rs)) (sym (number_at f h')) (sort_listed fi.passed f (let c = nonterminals_counted in omega arith));
        in_range = subst (λ s. any (wrong_cell_spec (length (arities_of rs)) (length (numbers_of rs)) (length (arguments s))) (cells_of (rule_of rs f)) ≡ false) (sym (sort_of_law f h'))
            (rule_in_range fi.passed f (let c = rules_counted in omega arith));
      }

  -- the arrays hold what the bodies are judged by
  pub judged : Judged file index heads rules rs
  judged =
      let c = rules_counted in
      record {
        there = fi.rules_there;
        few = let a = fi.few_nonterminals in let b = fi.few_rules in omega arith;
        some_nodes = λ f h. rule_some fi.passed f (omega arith);
        few_nodes = λ f h. rule_fits fi.passed f (omega arith);
        setting = setting_at;
        sort_is = λ f h. sort_of_law f (let l = fi.few_rules in omega arith);
      }

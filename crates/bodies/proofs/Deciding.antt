-- From the tables of a body to the verdict on it.
use Prim.Native.Nat.{ℕ, ◌/◌, ◌<◌, ◌≤◌}
use mathlib.Core.Path.{◌≡◌, refl, sym, ap, subst, ◌∙◌}
use mathlib.Core.Bool.{Bool, true, false, ◌&&◌, not}
use mathlib.Core.List.{List, [], ◌∷◌, map}
use mathlib.Core.Option.{some}
use native.Mathlib.Omega.{arith}
use native.Mathlib.Decide.{ℕ_discrete}
use borrow.Author.Tests.{le-leb, leb-true, eqb-true, eqb-false, eq-eqb}
use Rattle.std.specs.Prelude.{Option, Some, None}
use lib.Dec.{leb, eqb}
use lib.ListN.{length, get_or}
use Rattle.scheme.specs.Lists.{found}
use Rattle.scheme.specs.Sorts.{Sort, o, same_sort}
use Rattle.scheme.specs.Sorting.{sort_of}
use Rattle.scheme.specs.Terms.{Head, Terms, []ᵗ, ◌∷ᵗ◌, countᵗ}
use Rattle.scheme.specs.Prefix.{terms, complete, depth}
use Rattle.scheme.proofs.Lists.{and_true, T→true, true→T}
use Rattle.scheme.proofs.Sorting.{same_refl, found_sort}
use Rattle.casefile.specs.Tables.{nodes_of, first_term, body_of}
use Rattle.casefile.specs.Refusals.{wrong_body}
use Rattle.sorts.specs.codes.Sorted.{SortArrays}
use Rattle.sorts.specs.declared.codes.Sorts.{Sorts}
use Rattle.bodies.specs.declared.Heads.{Heads}
use Rattle.bodies.specs.Bodies.{Held, Goods, heads_by, BodyTables, Scanned, BodyDecided}
use Rattle.bodies.specs.declared.Subterm.{Subterm}
use Rattle.sorts.proofs.codes.Codes.{code_listed, listed_code}
use Rattle.casefile.proofs.Cells.{nodes_length}
use Rattle.index.specs.layout.Layout.{max_depth}

no_true : (b : Bool) → (b ≡ true → ⊥) → b ≡ false
no_true true f = absurd (f refl)
no_true false f = refl

not_not : (b : Bool) → not (not b) ≡ b
not_not true = refl
not_not false = refl

no_elements : {A : Type 0} (l : List A) → length l ≡ 0 → l ≡ []
no_elements [] e = refl
no_elements (x ∷ xs) e = absurd (omega arith)

module _ (hs : Head → Sort) where
  -- complete nodes, one term, of sort o, 64 deep at most
  unfoldable verdict : Bool → Terms → Bool
  verdict c ts = c && eqb (countᵗ ts) 1 && found (sort_of hs (first_term ts)) (same_sort o) && leb (depth (first_term ts)) 64

  verdict_parts : (c : Bool) (ts : Terms) → verdict c ts ≡ true → (c ≡ true) × (countᵗ ts ≡ 1) × (sort_of hs (first_term ts) ≡ some o) × (depth (first_term ts) ≤ max_depth)
  unfolding verdict
  verdict_parts c ts e =
      let x = and_true (c && eqb (countᵗ ts) 1 && found (sort_of hs (first_term ts)) (same_sort o)) (leb (depth (first_term ts)) 64) e in
      let y = and_true (c && eqb (countᵗ ts) 1) (found (sort_of hs (first_term ts)) (same_sort o)) x.0 in
      let z = and_true c (eqb (countᵗ ts) 1) y.0 in
      (z.0, eqb-true (countᵗ ts) 1 z.1, found_sort (sort_of hs (first_term ts)) o y.1, leb-true (depth (first_term ts)) max_depth x.1)

  verdict_in : (c : Bool) (ts : Terms) → c ≡ true → countᵗ ts ≡ 1 → sort_of hs (first_term ts) ≡ some o → depth (first_term ts) ≤ max_depth → verdict c ts ≡ true
  unfolding verdict found
  verdict_in c ts e f g h = let a = eq-eqb (countᵗ ts) 1 f in let b = le-leb (depth (first_term ts)) max_depth h in let d = same_refl o in rw (e, a, g, d, b) refl

  verdict_goods : (c : Bool) (ts : Terms) → verdict c ts ≡ true → Goods hs ts
  unfolding Goods countᵗ first_term
  verdict_goods c []ᵗ e = tt
  verdict_goods c (t ∷ᵗ []ᵗ) e = let (a, b, d, f) = verdict_parts c (t ∷ᵗ []ᵗ) e in ((o, d), f, tt)
  verdict_goods c (t ∷ᵗ u ∷ᵗ us) e = absurd (let (a, b, d, f) = verdict_parts c (t ∷ᵗ u ∷ᵗ us) e in omega arith)

  module _ {sorts : List Sort} {arrows : Sorts} (w : SortArrays sorts arrows) (ends codes depths : List ℕ) {n : ℕ} (positive : 0 < n) (c : Bool) where
    -- more or fewer terms than one
    verdict_ends : (ts : Terms) → Held hs sorts ends codes depths n ts 0 → (get_or ends 0 0 ≡ n → ⊥) → verdict c ts ≡ true → ⊥
    unfolding Held countᵗ
    verdict_ends []ᵗ h ne e = omega arith
    verdict_ends (t ∷ᵗ []ᵗ) h ne e = let a = h.1 in let b = h.5 in ne (omega arith)
    verdict_ends (t ∷ᵗ u ∷ᵗ us) h ne e = let (a, b, d, f) = verdict_parts c (t ∷ᵗ u ∷ᵗ us) e in omega arith

    -- one term of another sort
    verdict_codes : (ts : Terms) → Held hs sorts ends codes depths n ts 0 → (get_or codes 0 0 ≡ 0 → ⊥) → verdict c ts ≡ true → ⊥
    unfolding Held first_term
    verdict_codes []ᵗ h ne e = omega arith
    verdict_codes (t ∷ᵗ ts) h ne e =
        let (a, b, d, f) = verdict_parts c (t ∷ᵗ ts) e in
        let s = h.2 in
        let q = s.1 in
        let es : o ≡ s.0 = cc in
        ne (listed_code w 0 s.2 w.positive (w.start ∙ es))

    -- one term of sort o
    verdict_yes : (ts : Terms) → Held hs sorts ends codes depths n ts 0 → c ≡ true → get_or ends 0 0 ≡ n → get_or codes 0 0 ≡ 0 → verdict c ts ≡ true
    unfolding Held countᵗ first_term
    verdict_yes []ᵗ h y e f = absurd (omega arith)
    verdict_yes (t ∷ᵗ []ᵗ) h y e f =
        let s = h.2 in
        let z = (code_listed w s.2 (omega arith)).1 in
        let q : get_or sorts (get_or codes 0 0) o ≡ get_or sorts 0 o = ap (λ x. get_or sorts x o) f in
        let es : s.0 ≡ o = sym z ∙ q ∙ w.start in
        verdict_in c (t ∷ᵗ []ᵗ) y refl (s.1 ∙ ap some es) h.4
    verdict_yes (t ∷ᵗ u ∷ᵗ us) h y e f = absurd (let a = h.1 in let b = h.5.0 in omega arith)

module _ (p : List ℕ) (own : ℕ) where
  -- a body is accepted by the verdict on its terms
  verdict_is : (sorts : List Sort) (counts numbers : List ℕ)
      → not (wrong_body counts (map (λ (f : ℕ). get_or sorts f o) numbers) (get_or sorts own o) p) ≡ verdict (heads_by sorts counts numbers own) (complete (nodes_of p)) (terms (nodes_of p))
  unfolding wrong_body body_of verdict
  verdict_is sorts counts numbers = not_not (verdict (heads_by sorts counts numbers own) (complete (nodes_of p)) (terms (nodes_of p)))

  refused : (sorts : List Sort) (counts numbers : List ℕ) → (verdict (heads_by sorts counts numbers own) (complete (nodes_of p)) (terms (nodes_of p)) ≡ true → ⊥)
      → false ≡ not (wrong_body counts (map (λ (f : ℕ). get_or sorts f o) numbers) (get_or sorts own o) p)
  refused sorts counts numbers f = sym (verdict_is sorts counts numbers ∙ no_true (verdict (heads_by sorts counts numbers own) (complete (nodes_of p)) (terms (nodes_of p))) f)

  -- no nodes are no term
  empty_refused : length p / 4 ≡ 0 → (sorts : List Sort) (counts numbers : List ℕ) → verdict (heads_by sorts counts numbers own) (complete (nodes_of p)) (terms (nodes_of p)) ≡ true → ⊥
  unfolding terms countᵗ
  empty_refused h sorts counts numbers e =
      let (a, b, d, f) = verdict_parts (heads_by sorts counts numbers own) (complete (nodes_of p)) (terms (nodes_of p)) e in
      let g = ap (λ x. countᵗ (terms x)) (no_elements (nodes_of p) (nodes_length p ∙ h)) in
      omega arith

module _ {p : List ℕ} {heads : Heads} {own : ℕ} where
  module _ {before ends codes depths : List ℕ} {r : Option Subterm} (s : Scanned p heads own before ends codes depths r) where
    pub decide_fails : r ≡ None → BodyDecided p heads own before ends false
    decide_fails y = record {
      long = s.long;
      rest = s.rest;
      decided = λ sorts counts numbers w l m. refused p own sorts counts numbers (λ e. by sorts counts numbers w m e (ℕ_discrete (length p / 4) 0));
      ends_are = λ sorts counts numbers w l m e. absurd (cc);
    }
      where
        by : (sorts : List Sort) (counts numbers : List ℕ) → BodyTables sorts counts numbers p heads own → length p / 4 ≤ length before
            → verdict (heads_by sorts counts numbers own) (complete (nodes_of p)) (terms (nodes_of p)) ≡ true → Dec (length p / 4 ≡ 0) → ⊥
        by sorts counts numbers w m e (yes z) = empty_refused p own z sorts counts numbers e
        by sorts counts numbers w m e (no z) =
            s.fails sorts counts numbers w m y (omega arith) (true→T (verdict_parts (heads_by sorts counts numbers own) (complete (nodes_of p)) (terms (nodes_of p)) e).0)
            (verdict_goods (heads_by sorts counts numbers own) (complete (nodes_of p)) (terms (nodes_of p)) e)

    module _ (a : Subterm) (y : r ≡ Some a) where
      nodes_some : 0 < length (nodes_of p)
      nodes_some = let e = nodes_length p in let h = (s.held_as a y).inside a y in omega arith

      decide_ends : (a.end ≡ length p / 4 → ⊥) → BodyDecided p heads own before ends false
      decide_ends ne = record {
        long = s.long;
        rest = s.rest;
        decided = λ sorts counts numbers w l m. refused p own sorts counts numbers
            (verdict_ends (heads_by sorts counts numbers own) w.coded.table ends codes depths nodes_some (complete (nodes_of p)) (terms (nodes_of p)) (s.holds sorts counts numbers w m a y).held
            (λ f. ne ((s.held_as a y).end_is a y ∙ f ∙ nodes_length p)));
        ends_are = λ sorts counts numbers w l m f. absurd (cc);
      }

      last_cases : (b : Bool) → eqb a.sort 0 ≡ b → get_or ends 0 0 ≡ length (nodes_of p)
          → (sorts : List Sort) (counts numbers : List ℕ) → BodyTables sorts counts numbers p heads own → length p / 4 ≤ length before
          → b ≡ not (wrong_body counts (map (λ (f : ℕ). get_or sorts f o) numbers) (get_or sorts own o) p)
      last_cases true eb ee sorts counts numbers w m =
          let h = s.holds sorts counts numbers w m a y in
          sym (verdict_is p own sorts counts numbers ∙ verdict_yes (heads_by sorts counts numbers own) w.coded.table ends codes depths nodes_some (complete (nodes_of p)) (terms (nodes_of p)) h.held
          (T→true (complete (nodes_of p)) h.whole) ee (sym ((s.held_as a y).sort_is a y) ∙ eqb-true a.sort 0 eb))
      last_cases false eb ee sorts counts numbers w m =
          let h = s.holds sorts counts numbers w m a y in
          refused p own sorts counts numbers
          (verdict_codes (heads_by sorts counts numbers own) w.coded.table ends codes depths nodes_some (complete (nodes_of p)) (terms (nodes_of p)) h.held (λ f. eqb-false a.sort 0 eb ((s.held_as a y).sort_is a y ∙ f)))

      decide_last : a.end ≡ length p / 4 → BodyDecided p heads own before ends (eqb a.sort 0)
      decide_last en = record {
        long = s.long;
        rest = s.rest;
        decided = λ sorts counts numbers w l m. last_cases (eqb a.sort 0) refl (sym ((s.held_as a y).end_is a y) ∙ en ∙ sym (nodes_length p)) sorts counts numbers w m;
        ends_are = λ sorts counts numbers w l m f i k. let q = nodes_length p in (s.holds sorts counts numbers w m a y).ends_are i (omega arith) (omega arith);
      }

      tree_cases : (x : Bool) → eqb a.end (length p / 4) ≡ x → BodyDecided p heads own before ends (x && eqb a.sort 0)
      tree_cases true e = decide_last (eqb-true a.end (length p / 4) e)
      tree_cases false e = decide_ends (eqb-false a.end (length p / 4) e)

      pub decide_tree : (b : Bool) → b ≡ (eqb a.end (length p / 4) && eqb a.sort 0) → BodyDecided p heads own before ends b
      decide_tree b e = subst (λ x. BodyDecided p heads own before ends x) (sym e) (tree_cases (eqb a.end (length p / 4)) refl)

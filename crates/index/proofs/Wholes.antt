-- The bodies of a file that is not refused: each is one term, its tags are known.
use Prim.Native.Nat.{ℕ, ◌+◌, ◌*◌, ◌/◌, ◌<◌, ◌≤◌}
use native.Mathlib.Omega.{arith}
use mathlib.Core.Path.{◌≡◌, sym, subst, ◌∙◌}
use mathlib.Core.Bool.{false, ◌&&◌}
use mathlib.Core.List.{List, [], ◌∷◌, append-nil}
use mathlib.Core.Option.{none}
use borrow.Author.Tests.{eqb-true, not-false, ltb-false}
use lib.Dec.{eqb, leb, ltb}
use lib.ListN.{length, get_or}
use Rattle.scheme.specs.Lists.{found, any}
use Rattle.scheme.specs.Sorts.{Sort, o, same_sort, arguments}
use Rattle.scheme.specs.Sorting.{head_sort, sort_of}
use Rattle.scheme.specs.Terms.{Terms, []ᵗ, ◌∷ᵗ◌, countᵗ}
use Rattle.scheme.specs.Prefix.{terms, complete, flat, flats, depth}
use Rattle.scheme.proofs.Lists.{true→T, or_false, and_true, any_at}
use Rattle.scheme.proofs.Prefix.{flats_terms}
use Rattle.casefile.specs.Fields.{byte, word}
use Rattle.casefile.specs.Records.{Record}
use Rattle.casefile.specs.Kinds.{Kind, payloads, count}
use Rattle.casefile.specs.Tables.{arities_of, signatures_of, Cell, cells_of, nodes_of, first_term, body_of}
use Rattle.casefile.specs.Refusals.{wrong_cell_spec, too_many, too_large, out_of_range, wrong_body, refuse_whole}
use Rattle.casefile.proofs.Passed.{count_fewer, entry}
use Rattle.casefile.specs.Promises.{Passed, cell_at}
use Rattle.casefile.proofs.TypeTable.{count_payloads}
use Rattle.casefile.proofs.Plans.{body_passes, signatures_length}
use Rattle.casefile.proofs.Cells.{cells_length, cells_at, cell_range}
use Rattle.index.specs.layout.Layout.{max_nodes}
use Rattle.index.specs.entries.Index.{Indexed}
use Rattle.index.specs.Wholes.{Whole, Bodies}

-- the nodes of exactly one term
single : (ts : Terms) → countᵗ ts ≡ 1 → flats ts ≡ flat (first_term ts)
unfolding countᵗ flats first_term
single []ᵗ e = absurd (omega arith)
single (t ∷ᵗ []ᵗ) e = append-nil (flat t)
single (t ∷ᵗ (u ∷ᵗ ts)) e = absurd (omega arith)

one_term : (arities : List ℕ) (sigs : List Sort) (s : Sort) (p : List ℕ) → wrong_body arities sigs s p ≡ false → nodes_of p ≡ flat (body_of p)
unfolding wrong_body body_of
one_term arities sigs s p e =
    let whole = complete (nodes_of p) in
    let one = eqb (countᵗ (terms (nodes_of p))) 1 in
    let sorted = found (sort_of (head_sort arities sigs (arguments s)) (body_of p)) (same_sort o) in
    let shallow = leb (depth (body_of p)) 64 in
    let (a, b) = and_true whole one (and_true (whole && one) sorted (and_true (whole && one && sorted) shallow (not-false (whole && one && sorted && shallow) e)).0).0 in
    sym (flats_terms (nodes_of p) (true→T a)) ∙ single (terms (nodes_of p)) (eqb-true (countᵗ (terms (nodes_of p))) 1 b)

module _ {rs : List Record} (ok : Passed rs) where
  -- the tag of each node, and the number of a nonterminal, which the file has
  cell_passes : (f : ℕ) → f < length (payloads Kind.rule rs) → (i : ℕ) → i < length (get_or (payloads Kind.rule rs) f []) / 4
      → (byte (get_or (payloads Kind.rule rs) f []) (i * 4) ≤ 2) × (byte (get_or (payloads Kind.rule rs) f []) (i * 4) ≡ 1 → word (get_or (payloads Kind.rule rs) f []) (i * 4 + 1) < count Kind.nonterminal rs)
  unfolding out_of_range
  cell_passes f h =
      let e = entry ok Kind.rule f h in
      let before = e.earlier in
      let p = e.payload in
      let n = count Kind.rule before in
      let sigs = signatures_of before in
      let right = (or_false (leb (length sigs) n) (any (wrong_cell_spec (length (arities_of before)) (length sigs) (length (arguments (get_or sigs n o)))) (cells_of p)) e.passed_tests.ranges).1 in
      let known = subst (λ l. count Kind.nonterminal before ≤ count Kind.nonterminal l) e.together (count_fewer Kind.nonterminal before e.later) in
      subst (λ l. (i : ℕ) → i < length l / 4 → (byte l (i * 4) ≤ 2) × (byte l (i * 4) ≡ 1 → word l (i * 4 + 1) < count Kind.nonterminal rs)) (sym e.here)
      (λ i k.
      let d = cell_at p i in
      let l = cells_length p in
      let w = any_at (wrong_cell_spec (length (arities_of before)) (length sigs) (length (arguments (get_or sigs n o)))) (cells_of p) i d right (omega arith) in
      let (small, below) = subst (λ (c : Cell). (c.tag ≤ 2) × (c.number < get_or (length (arities_of before) ∷ length sigs ∷ []) c.tag (length (arguments (get_or sigs n o))))) (cells_at p i d k) (cell_range (length (arities_of before)) (length sigs) (length (arguments (get_or sigs n o))) (get_or (cells_of p) i d) w) in
      (small, λ is. named (length (arities_of before)) (length sigs) (length (arguments (get_or sigs n o))) (byte p (i * 4)) (word p (i * 4 + 1)) is below (let s = signatures_length before in omega arith)))
    where
      named : (x y z tag k : ℕ) → tag ≡ 1 → k < get_or (x ∷ y ∷ []) tag z → y ≤ count Kind.nonterminal rs → k < count Kind.nonterminal rs
      named x y z tag k is below few = let l : k < y = subst (λ a. k < get_or (x ∷ y ∷ []) a z) is below in omega arith

  -- a nonterminal in a body is one of the file's
  pub names_known : (f : ℕ) → f < count Kind.rule rs → (i : ℕ) → i < length (get_or (payloads Kind.rule rs) f []) / 4 → byte (get_or (payloads Kind.rule rs) f []) (i * 4) ≡ 1 → word (get_or (payloads Kind.rule rs) f []) (i * 4 + 1) < count Kind.nonterminal rs
  names_known f h i k = (cell_passes f (let l = count_payloads Kind.rule rs in omega arith) i k).1

  nodes_few : (f : ℕ) → f < length (payloads Kind.rule rs) → length (get_or (payloads Kind.rule rs) f []) / 4 ≤ max_nodes
  unfolding too_large too_many
  nodes_few f h =
      let e = entry ok Kind.rule f h in
      let l = cells_length e.payload in
      let k = ltb-false 256 (length (cells_of e.payload)) (or_false false (ltb 256 (length (cells_of e.payload))) e.passed_tests.few).1 in
      subst (λ (p : List ℕ). length p / 4 ≤ max_nodes) (sym e.here) (omega arith)

  module _ (flags : ℕ) (e : refuse_whole rs flags ≡ none) where
    -- the body of each rule
    pub whole_body : (f : ℕ) → f < count Kind.rule rs → Whole (get_or (payloads Kind.rule rs) f [])
    whole_body f h =
        record {
          one_term = one_term (arities_of rs) (signatures_of rs) (get_or (signatures_of rs) f o) (get_or (payloads Kind.rule rs) f []) (body_passes rs flags e f h);
          short = nodes_few f (let l = count_payloads Kind.rule rs in omega arith);
          tags = λ i k. (cell_passes f (let l = count_payloads Kind.rule rs in omega arith) i k).0;
        }

    -- the index has the rules, whose bodies are terms
    pub whole_bodies : {file index : List ℕ} {rules : ℕ} → Indexed file index Kind.rule rules rs → Bodies file index rules rs
    whole_bodies x = record { there = x; whole = λ f h. whole_body f (let c = x.counted in omega arith) }

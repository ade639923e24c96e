-- Terms by their first node in a body: the head and the arguments, and where each subterm ends.
use Prim.Native.Nat.{ℕ, zero, suc, ◌+◌, ◌*◌, ◌/◌, ◌<◌, ◌≤◌}
use native.Mathlib.Omega.{arith}
use mathlib.Core.Path.{◌≡◌, refl, sym, ap, ◌∙◌}
use mathlib.Core.List.{List, [], ◌∷◌, ◌++◌, append_assoc}
use lib.ListN.{length, get_or, drop, length-drop, length-append}
use lib.Seq.{drop-drop, drop-append_seam}
use Rattle.scheme.specs.Terms.{Head, con, nt, par, Term, node, Terms, ◌∷ᵗ◌, countᵗ, nodes}
use Rattle.scheme.specs.Prefix.{Node, flat, flats, terms}
use Rattle.scheme.proofs.Prefix.{terms_flat, length_flat}
use Rattle.casefile.specs.Fields.{field}
use Rattle.casefile.specs.Tables.{head_of, nodes_of, first_term}
use Rattle.casefile.specs.Promises.{cell_at}
use Rattle.casefile.proofs.Cells.{node_at, nodes_length, nodes_drop}
use Rattle.tables.specs.Facts.{At, AllAt, head_by}

-- a term has a node
nodes_some : (t : Term) → 0 < nodes t
unfolding nodes
nodes_some (node h ts) = omega arith

module _ (p : List ℕ) where
  pub at_inside : (i : ℕ) (t : Term) → At (nodes_of p) i t → i < length p / 4
  at_inside i t (rest, e) =
      let a = length-drop i (nodes_of p) in
      let b = ap length e in
      let c = length-append (flat t) rest in
      let d = length_flat t in
      let f = nodes_some t in
      let g = nodes_length p in
      omega arith

  -- the head of a term, and its argument count
  pub at_head : (i : ℕ) (h : Head) (ts : Terms) → At (nodes_of p) i (node h ts) → (head_of (cell_at p i) ≡ h) × (field 1 p (i * 4 + 3) ≡ countᵗ ts)
  unfolding flat
  at_head i h ts (rest, e) =
      let both : node_at p i ∷ drop (suc i) (nodes_of p) ≡ record { head = h; count = countᵗ ts } ∷ (flats ts ++ rest) = sym (nodes_drop p i (at_inside i (node h ts) (rest, e))) ∙ e in
      let first : node_at p i ≡ record { head = h; count = countᵗ ts } = ap (λ l. get_or l 0 (node_at p i)) both in
      (ap (λ (n : Node). n.head) first, ap (λ (n : Node). n.count) first)

-- the first of several terms, and the others behind it
module _ (ns : List Node) (i : ℕ) (t : Term) (ts : Terms) where
  pub first_at : AllAt ns i (t ∷ᵗ ts) → At ns i t
  unfolding flats
  first_at (rest, e) = (flats ts ++ rest, e ∙ append_assoc (flat t) (flats ts) rest)

  pub others_at : AllAt ns i (t ∷ᵗ ts) → AllAt ns (i + nodes t) ts
  unfolding flats
  others_at (rest, e) =
      (rest, sym (drop-drop (nodes t) i ns) ∙ ap (drop (nodes t)) (e ∙ append_assoc (flat t) (flats ts) rest) ∙ ap (λ n. drop n (flat t ++ (flats ts ++ rest))) (sym (length_flat t)) ∙ drop-append_seam (flat t) (flats ts ++ rest))

-- the term at a node, as the definitions of the ends have it
pub term_at_law : (ns : List Node) (i : ℕ) (t : Term) → At ns i t → first_term (terms (drop i ns)) ≡ t
unfolding first_term
term_at_law ns i t (rest, e) = ap (λ l. first_term (terms l)) e ∙ ap first_term (terms_flat t rest)

-- the head by the tag
pub head_by_law : (p : List ℕ) (i : ℕ) → field 1 p (i * 4) ≤ 2 → head_by (field 1 p (i * 4)) (field 2 p (i * 4 + 1)) ≡ head_of (cell_at p i)
unfolding head_of head_by
head_by_law p i h = go (field 1 p (i * 4)) h
  where
    k : ℕ
    k = field 2 p (i * 4 + 1)

    go : (tag : ℕ) → tag ≤ 2 → head_by tag k ≡ get_or (con k ∷ nt k ∷ []) tag (par k)
    go zero l = refl
    go (suc zero) l = refl
    go (suc (suc zero)) l = refl
    go (suc (suc (suc n))) l = absurd (omega arith)

-- a nonterminal in front, by the tag and the number
pub head_bound : (p : List ℕ) (i k : ℕ) → field 1 p (i * 4) ≤ 2 → head_of (cell_at p i) ≡ nt k → (field 1 p (i * 4) ≡ 1) × (field 2 p (i * 4 + 1) ≡ k)
unfolding head_of
head_bound p i k h = go (field 1 p (i * 4)) h
  where
    n : ℕ
    n = field 2 p (i * 4 + 1)

    go : (tag : ℕ) → tag ≤ 2 → get_or (con n ∷ nt n ∷ []) tag (par n) ≡ nt k → (tag ≡ 1) × (n ≡ k)
    go zero l e = let z : ◌≡◌ {A = ℕ} 0 1 = cc in absurd (omega arith)
    go (suc zero) l e = (refl, cc)
    go (suc (suc zero)) l e = let z : ◌≡◌ {A = ℕ} 0 1 = cc in absurd (omega arith)
    go (suc (suc (suc m))) l e = absurd (omega arith)

-- What the nodes in the table mean: each is the head of the term at it.
use Prim.Native.Nat.{ℕ, ◌+◌, ◌*◌, ◌/◌, ◌%◌, ◌<◌, ◌≤◌}
use native.Mathlib.Omega.{arith}
use mathlib.Core.Path.{◌≡◌, ap, subst, ◌∙◌}
use mathlib.Core.List.{List}
use lib.ListN.{length, get_or, drop}
use Rattle.scheme.specs.Terms.{node, nodes}
use Rattle.scheme.specs.Prefix.{terms}
use Rattle.casefile.specs.Fields.{field}
use Rattle.casefile.specs.Tables.{nodes_of, first_term}
use Rattle.casefile.specs.Promises.{Bytes}
use Rattle.casefile.proofs.Fields.{field_lt}
use Rattle.index.specs.layout.Layout.{max_nodes, place_limit, node_cells, number_cell, next_cell}
use Rattle.tables.specs.Facts.{head_by, NodesAre}
use Rattle.tables.specs.reading.Cells.{node_place, node_at}
use Rattle.tables.specs.nodes.Bodies.{head_cell, tag_at, NodeSays, BodySays}
use Rattle.tables.proofs.nodes.Places.{at_inside, at_head, term_at_law, head_by_law, head_bound}

-- a body whose payload p begins at a place of the file
module _ (file : List ℕ) (start : ℕ) (p : List ℕ) (there : (w at : ℕ) → at + w ≤ length p → field w file (start + at) ≡ field w p at) (bytes : Bytes p) (short : length p / 4 ≤ max_nodes) (tags : (i : ℕ) → i < length p / 4 → field 1 p (i * 4) ≤ 2)
    (symbols : ℕ) (names : (i : ℕ) → i < length p / 4 → field 1 p (i * 4) ≡ 1 → field 2 p (i * 4 + 1) < symbols)
    (ends : List ℕ) (first : ℕ) (ends_are : (i : ℕ) → i < length p / 4 → get_or ends (first + i) 0 ≡ i + nodes (first_term (terms (drop i (nodes_of p)))))
    (base : ℕ) (near : base < place_limit) (t : List ℕ) (says : BodySays file start (length p / 4) ends first base t) where
  tag_is : (i : ℕ) → i < length p / 4 → tag_at file start i ≡ field 1 p (i * 4)
  tag_is i h = there 1 (i * 4) (omega arith)

  -- THE NODES OF A BODY
  pub nodes_are : NodesAre symbols t base (nodes_of p)
  unfolding node_at
  nodes_are i h ts at =
      record {
        inside = omega (arith, i_inside);
        head = ap (λ x. head_by x (get_or t (node_place base i + number_cell) 0)) (tag ∙ low (field 1 p (i * 4)) (tags i i_inside)) ∙ ap (head_by (field 1 p (i * 4))) number ∙ head_by_law p i (tags i i_inside) ∙ (at_head p i h ts at).0;
        arguments = count ∙ (at_head p i h ts at).1;
        few = subst (λ x. x < 256) (at_head p i h ts at).1 (field_lt 1 p (i * 4 + 3) bytes);
        behind = behind;
        known = λ k e.
            let (tag_one, is) = head_bound p i k (tags i i_inside) ((at_head p i h ts at).0 ∙ e) in
            subst (λ x. x < symbols) is (names i i_inside tag_one);
      }
    where
      i_inside : i < length p / 4
      i_inside = at_inside p i (node h ts) at

      s : NodeSays file start (get_or ends (first + i) 0) i (base + i * node_cells) t
      s = says i i_inside

      place : node_place base i ≡ base + i * node_cells
      place = let l = i_inside in omega arith

      next : ℕ
      next = get_or ends (first + i) 0

      cell : ℕ
      cell = head_cell (tag_at file start i) (field 1 file (start + i * 4 + 3))

      head : get_or t (node_place base i) 0 ≡ cell
      head = ap (λ x. get_or t x 0) place ∙ s.head

      split : (cell % 4 ≡ tag_at file start i % 4) × (cell / 4 ≡ field 1 file (start + i * 4 + 3))
      split = (omega arith, omega arith)

      low : (x : ℕ) → x ≤ 2 → x % 4 ≡ x
      low x l = omega arith

      tag : get_or t (node_place base i) 0 % 4 ≡ field 1 p (i * 4) % 4
      tag = ap (λ x. x % 4) head ∙ split.0 ∙ ap (λ x. x % 4) (tag_is i i_inside)

      number : get_or t (node_place base i + number_cell) 0 ≡ field 2 p (i * 4 + 1)
      number = let l = i_inside in let z : start + i * 4 + 1 ≡ start + (i * 4 + 1) = omega arith in ap (λ x. get_or t (x + number_cell) 0) place ∙ s.number ∙ ap (field 2 file) z ∙ there 2 (i * 4 + 1) (omega arith)

      count : get_or t (node_place base i) 0 / 4 ≡ field 1 p (i * 4 + 3)
      count = let l = i_inside in let z : start + i * 4 + 3 ≡ start + (i * 4 + 3) = omega arith in ap (λ x. x / 4) head ∙ split.1 ∙ ap (field 1 file) z ∙ there 1 (i * 4 + 3) (omega arith)

      next_is : next ≡ i + nodes (node h ts)
      next_is = ends_are i i_inside ∙ ap (λ x. i + nodes x) (term_at_law (nodes_of p) i (node h ts) at)

      behind : get_or t (node_place base i + next_cell) 0 ≡ i + nodes (node h ts)
      behind = ap (λ x. get_or t (x + next_cell) 0) place ∙ s.behind ∙ next_is

-- The nodes of bodies as they are filled, one body after another.
use Prim.Native.Nat.{ℕ, ◌+◌, ◌-◌, ◌*◌, ◌/◌, ◌%◌, ◌<◌, ◌≤◌}
use native.Mathlib.Omega.{arith}
use native.Mathlib.Decide.{ℕ_discrete}
use mathlib.Core.Path.{◌≡◌, sym, ap, subst, ◌∙◌}
use mathlib.Core.List.{List}
use lib.ListN.{length, get_or, set, length-set}
use lib.Seq.{get_or-set_same, get_or-set_other}
use Rattle.casefile.specs.Fields.{field, word}
use Rattle.records.specs.fields.Promises.{HasLength}
use Rattle.index.specs.layout.Layout.{max_nodes, node_cells, number_cell, next_cell}
use Rattle.tables.specs.Frames.{Within}
use Rattle.tables.specs.nodes.Bodies.{CountsNodes, EntersNode, NodeSays, BodySays, FillsBody, start_of, first_of, Bodied, FillsNodes}
use Rattle.tables.proofs.Frames.{within_then, within_set}

-- the number of nodes
module _ {file : List ℕ} {start len : ℕ} (is : HasLength file start len) where
  pub nodes_few : len / 4 ≤ max_nodes → CountsNodes file start (len / 4)
  nodes_few h = record { few = h; counted = λ l few. ap (λ x. x / 4) (is.headed l) }

-- one node
pub node_entered : {file t : List ℕ} (place next cell : ℕ) → cell + node_cells ≤ length t
    → EntersNode file place next cell t (set (set (set t cell (get_or file place 0 % 4 + 4 * get_or file (place + 3) 0)) (cell + number_cell) (get_or file (place + 1) 0 + 256 * get_or file (place + 2) 0)) (cell + next_cell) next)
unfolding field
node_entered {file} {t} place next cell room =
    record {
      within = within_then (within_set t cell head (omega arith) (omega arith)) (within_then (within_set a (cell + number_cell) number (omega arith) (omega arith)) (within_set b (cell + next_cell) next (omega arith) (omega arith)));
      head = get_or-set_other b (cell + next_cell) cell next 0 (λ z. omega arith) ∙ get_or-set_other a (cell + number_cell) cell number 0 (λ z. omega arith) ∙ get_or-set_same t cell head 0 (omega arith) ∙ omega arith;
      number = get_or-set_other b (cell + next_cell) (cell + number_cell) next 0 (λ z. omega arith) ∙ get_or-set_same a (cell + number_cell) number 0 (let l = length-set t cell head in omega arith) ∙ ap (λ x. get_or file (place + 1) 0 + 256 * x) (let e = ap (λ k. get_or file k 0) (let z : place + 2 ≡ place + 1 + 1 = omega arith in z) in omega arith);
      behind = get_or-set_same b (cell + next_cell) next 0 (let l = length-set t cell head in let m = length-set a (cell + number_cell) number in omega arith);
    }
  where
    head : ℕ
    head = get_or file place 0 % 4 + 4 * get_or file (place + 3) 0

    number : ℕ
    number = get_or file (place + 1) 0 + 256 * get_or file (place + 2) 0

    a : List ℕ
    a = set t cell head

    b : List ℕ
    b = set a (cell + number_cell) number

-- One body.
pub record BodyTo (file : List ℕ) (start n : ℕ) (ends : List ℕ) (first at : ℕ) (before : List ℕ) (i : ℕ) (t : List ℕ) : Type 0 where
  pub up_to : i ≤ n
  pub within : Within at (at + n * node_cells) before t
  pub says : (j : ℕ) → j < i → NodeSays file start (get_or ends (first + j) 0) j (at + j * node_cells) t

-- a node stays while its cells stay
node_stays : {file : List ℕ} {start next i cell : ℕ} {t : List ℕ} (after : List ℕ) → ((k : ℕ) → cell ≤ k → k < cell + node_cells → get_or after k 0 ≡ get_or t k 0) → NodeSays file start next i cell t → NodeSays file start next i cell after
node_stays {cell = cell} after same s =
    record { head = same cell (omega arith) (omega arith) ∙ s.head; number = same (cell + number_cell) (omega arith) (omega arith) ∙ s.number; behind = same (cell + next_cell) (omega arith) (omega arith) ∙ s.behind }

-- All bodies.
pub record NodesTo (file index ends firsts : List ℕ) (rules at : ℕ) (before : List ℕ) (f : ℕ) (t : List ℕ) : Type 0 where
  pub up_to : f ≤ rules
  pub long : length t ≡ length before
  pub below : (i : ℕ) → i < at → get_or t i 0 ≡ get_or before i 0
  pub says : (nodes : ℕ → ℕ) → Bodied file index firsts rules at nodes (length before) → (g : ℕ) → g < f → BodySays file (start_of index g) (nodes g) ends (first_of firsts g) (at + first_of firsts g * node_cells) t

module _ {file index ends firsts : List ℕ} {rules at : ℕ} {before : List ℕ} {f : ℕ} {t : List ℕ} (so : NodesTo file index ends firsts rules at before f t) where
  pub bodies_more : f < rules → (start n first : ℕ) → start ≡ start_of index f → CountsNodes file start n → first ≡ first_of firsts f → (after : List ℕ) → FillsBody file start n ends first (at + first * node_cells) t after → NodesTo file index ends firsts rules at before (f + 1) after
  bodies_more h start n first es counts ef after fills =
      record {
        up_to = omega arith;
        long = fills.within.long ∙ so.long;
        below = λ i l. fills.within.outside i (λ p q. omega arith) ∙ so.below i l;
        says = λ nodes w g l. body nodes w g l (ℕ_discrete g f);
      }
    where
      body : (nodes : ℕ → ℕ) → Bodied file index firsts rules at nodes (length before) → (g : ℕ) → g < f + 1 → Dec (g ≡ f) → BodySays file (start_of index g) (nodes g) ends (first_of firsts g) (at + first_of firsts g * node_cells) after
      body nodes w g l (no z) =
          λ i k.
          let y : (g ≡ f → ⊥) = z in
          let a = w.apart g f (omega arith) h in
          node_stays after (λ c p q. fills.within.outside c (λ u v. omega arith)) (so.says nodes w g (omega arith) i k)
      body nodes w g l (yes z) =
          subst (λ x. BodySays file (start_of index x) (nodes x) ends (first_of firsts x) (at + first_of firsts x * node_cells) after) (sym z)
          (subst (λ x. BodySays file x (nodes f) ends (first_of firsts f) (at + first_of firsts f * node_cells) after) es
          (subst (λ x. BodySays file start (nodes f) ends x (at + x * node_cells) after) ef
          (subst (λ x. BodySays file start x ends first (at + first * node_cells) after) same (fills.says there room))))
        where
          same : n ≡ nodes f
          same =
              let c = w.counted f h in
              let b = w.few f h in
              let s = ap (λ x. word file (x - 4) / 4) es in
              counts.counted (let a = w.headed f h in omega arith) (omega arith) ∙ s ∙ sym c

          there : n * 4 ≤ length file - start
          there = let r = w.there f h in let s = same in let q = es in omega arith

          room : at + first * node_cells + n * node_cells ≤ length t
          room = let r = w.room f h in let s = same in let q = so.long in omega arith

  pub bodies_all : rules ≤ f → FillsNodes file index ends firsts rules at before t
  bodies_all h = record { long = so.long; below = so.below; says = λ few near nodes w g l. so.says nodes w g (omega arith) }

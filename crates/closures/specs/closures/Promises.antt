-- What our own crates promise each other; nothing here has to be believed.
-- What the functions on closures promise.
use Rattle.std.specs.Prelude.{ℕ, ◌+◌, ◌*◌, ◌<◌, ◌≤◌, ◌≡◌, List, [], ◌∷◌, length, get_or, Option, MatchOption}
use Rattle.scheme.specs.Terms.{Head, con, nt, par, Term, node, Terms, []ᵗ, countᵗ, term_at, nodes, nodes_all, put, puts}
use Rattle.scheme.specs.Prefix.{Node, flat, flats}
use Rattle.closures.specs.closures.Nodes.{NodeAt, NodesAt}
use Rattle.closures.specs.closures.Closures.{block_in_spec, count_in, place_in, size_in_spec, slot_of, lone, Closure, Frame}
use Rattle.closures.specs.declared.closures.Closure.{Closure as Packed}
use Rattle.closures.specs.declared.closures.Measured.{Measured}
use Rattle.index.specs.layout.Layout.{max_term, node_units, place_units, block_units}

-- r is the number in cell i of the frame; none past the last
abbrev pub IsClosureAt : List ℕ → ℕ → ℕ → ℕ → Option Packed → Type 0
IsClosureAt cells block count i r = block < block_units → count ≤ 8 → MatchOption r (count ≤ i) (λ v. (i < count) × (v.0 ≡ get_or cells (slot_of block count + i) 0))

-- how many nodes a head of a body counts with terms put for the parameters, its arguments not counted
unfoldable pub weight : Terms → Head → ℕ
weight xs (con c) = 1
weight xs (nt f) = 1
weight xs (par i) = nodes (term_at xs i (node (par i) []ᵗ))

unfoldable pub weights : Terms → List Node → ℕ
weights xs [] = 0
weights xs (n ∷ ns) = weight xs n.head + weights xs ns

-- r is the weight of the node at a place
pub record Weighs (file cells : List ℕ) (at block count r : ℕ) : Type 0 where
  pub small : r < node_units
  pub weighs : (n : Node) (xs : Terms) → NodeAt file at n → Frame file cells block count xs → block < block_units → r ≡ weight xs n.head

-- r is the end of the term at a place, and its nodes with terms put for the parameters
pub record Measures (file cells : List ℕ) (at block count : ℕ) (r : Measured) : Type 0 where
  pub measures : (b : Term) (xs : Terms) → NodesAt file at (flat b) → Frame file cells block count xs → block < block_units
      → (r.next ≡ at + 4 * nodes b) × (r.nodes ≡ nodes (put xs b))

-- v is n where it is at most 4,096; where it is larger, n is too
pub record Capped (v n : ℕ) : Type 0 where
  pub exact : v ≤ max_term → v ≡ n
  pub over : max_term < v → max_term < n

-- r is the sum of a and b, capped
abbrev pub Adds : ℕ → ℕ → ℕ → Type 0
Adds a b r = (m n : ℕ) → Capped a m → Capped b n → Capped r (m + n)

-- r has these parts
pub record Packs (at block count size r : ℕ) : Type 0 where
  pub block_in : block < block_units → count < 16 → block_in_spec r ≡ block
  pub count_in_law : count < 16 → count_in r ≡ count
  pub place_in_law : at < place_units → place_in r ≡ at
  pub size_in : size < node_units → size_in_spec r ≡ size

-- r is a closure of the term at a place
pub record Closes (file cells : List ℕ) (at block count size r : ℕ) : Type 0 where
  pub closes : (top : ℕ) (b : Term) (xs : Terms) → NodesAt file at (flat b) → Frame file cells block count xs → block < top → top ≤ block_units → size ≡ nodes (put xs b) → size < node_units
      → Closure file cells top r (put xs b)

-- m terms stand at a place, the frame's block is below `top`, and their closures have room in the cells from `low` on
pub record Spreadable (file cells : List ℕ) (at m block count low top : ℕ) (ts xs : Terms) : Type 0 where
  pub here : NodesAt file at (flats ts)
  pub counted : countᵗ ts ≡ m
  pub frame : Frame file cells block count xs
  pub behind : block < top
  pub few : top ≤ block_units
  pub high : top * 8 ≤ low
  pub room : low + m ≤ length cells

-- the cells after the closures of m terms were written from cell `low` on, all else being as it was; r has the terms'
-- nodes, capped
pub record Spreads (file cells cells' : List ℕ) (at m block count low r : ℕ) : Type 0 where
  pub long : length cells' ≡ length cells
  pub below : (s : ℕ) → s < low → get_or cells' s 0 ≡ get_or cells s 0
  pub above : (s : ℕ) → low + m ≤ s → get_or cells' s 0 ≡ get_or cells s 0
  pub total : (top : ℕ) (ts xs : Terms) → Spreadable file cells at m block count low top ts xs → Capped r (nodes_all (puts xs ts))
  pub closed : (top : ℕ) (ts xs : Terms) → Spreadable file cells at m block count low top ts xs → nodes_all (puts xs ts) < node_units → (j : ℕ) → j < m → Closure file cells' top (get_or cells' (low + j) 0) (term_at (puts xs ts) j lone)

-- What our own crates promise each other; nothing here has to be believed.
-- The head in front of a term, its arguments as closures in a block.
use Rattle.std.specs.Prelude.{ℕ, ◌+◌, ◌*◌, ◌<◌, ◌≤◌, ◌≡◌, List, length, get_or, Option, IsSomeAnd}
use Rattle.scheme.specs.Terms.{Head, Term, node, Terms, countᵗ, nodes, put}
use Rattle.scheme.specs.Prefix.{flat}
use Rattle.closures.specs.heads.Heads.{head_as}
use Rattle.closures.specs.closures.Nodes.{NodesAt}
use Rattle.closures.specs.closures.Closures.{Frame}
use Rattle.closures.specs.closures.Promises.{Capped}
use Rattle.closures.specs.declared.fronts.Front.{Front}
use Rattle.index.specs.layout.Layout.{node_units, block_units}

-- the arguments of a term
unfoldable pub argumentsᵗ : Term → Terms
argumentsᵗ (node h ts) = ts

-- a term at a place with a frame, whose arguments have room in block `top`
pub record Gatherable (file cells : List ℕ) (at block count top : ℕ) (b : Term) (xs : Terms) : Type 0 where
  pub here : NodesAt file at (flat b)
  pub frame : Frame file cells block count xs
  pub behind : block < top
  pub few : top < block_units
  pub room : top * 8 + 8 ≤ length cells
  pub narrow : countᵗ (argumentsᵗ (put xs b)) ≤ 8

-- r is the head in front of a term, and block `top` holds its arguments
pub record IsFront (file cells : List ℕ) (top : ℕ) (r : Front) (t : Term) : Type 0 where
  pub head : Head
  pub arguments : Terms
  pub is : t ≡ node head arguments
  pub head_is : head_as r.head ≡ head
  pub frame : Frame file cells top r.count arguments

-- the cells after the arguments of the term at a place were gathered, those below block `top` being as they were; r has the
-- term's nodes, capped
pub record Gathers (file cells cells' : List ℕ) (at block count top : ℕ) (r : Option Front) : Type 0 where
  pub long : length cells' ≡ length cells
  pub kept : (s : ℕ) → s < top * 8 → get_or cells' s 0 ≡ get_or cells s 0
  pub total : (b : Term) (xs : Terms) → Gatherable file cells at block count top b xs → IsSomeAnd r (λ front. Capped front.nodes (nodes (put xs b)))
  pub gathers : (b : Term) (xs : Terms) → Gatherable file cells at block count top b xs → nodes (put xs b) < node_units → IsSomeAnd r (λ front. IsFront file cells' top front (put xs b))

-- What our own crates promise each other; nothing here has to be believed.
-- Terms with shared subterms: a term is a node of a body in the file, with closures for its parameters. A closure is a
-- number: the node's place, and the block of cells in which the closures of its parameters stand.
use Rattle.std.specs.Prelude.{ℕ, ◌+◌, ◌-◌, ◌*◌, ◌/◌, ◌%◌, ◌<◌, ◌≤◌, ◌≡◌, List, get_or}
use Rattle.scheme.specs.Terms.{par, Term, node, Terms, []ᵗ, countᵗ, term_at, nodes, put}
use Rattle.scheme.specs.Prefix.{flat}
use Rattle.closures.specs.closures.Nodes.{NodesAt}
use Rattle.index.specs.layout.Layout.{node_units, place_units, count_units, count_unit, block_unit}

-- the parts of a closure: the block and the count of its parameters' closures, its node's place, its nodes as a tree
abbrev pub block_in_spec : ℕ → ℕ
block_in_spec v = v / block_unit

abbrev pub count_in : ℕ → ℕ
count_in v = v / count_unit % count_units

abbrev pub place_in : ℕ → ℕ
place_in v = v / node_units % place_units

abbrev pub size_in_spec : ℕ → ℕ
size_in_spec v = v % node_units

-- the cell of the first of a given number of closures in a block of eight cells: they are the last of it
abbrev pub slot_of : ℕ → ℕ → ℕ
slot_of block count = block * 8 + 8 - count

-- what stands where there is no term
abbrev pub lone : Term
lone = node (par 0) []ᵗ

-- the number v is a closure for a term, its parameters' closures being in a block below m
pub data Closure (file cells : List ℕ) : ℕ → ℕ → Term → Type 0 where
  closure : {m v : ℕ} {t : Term} (b : Term) (xs : Terms) → block_in_spec v < m → NodesAt file (place_in v) (flat b) → countᵗ xs ≡ count_in v → count_in v ≤ 8 → size_in_spec v ≡ nodes t → t ≡ put xs b
      → ((i : ℕ) → i < count_in v → Closure file cells (block_in_spec v) (get_or cells (slot_of (block_in_spec v) (count_in v) + i) 0) (term_at xs i lone))
      → Closure file cells m v t

-- the last `count` cells of a block hold closures for terms
pub record Frame (file cells : List ℕ) (block count : ℕ) (xs : Terms) : Type 0 where
  pub counted : countᵗ xs ≡ count
  pub few : count ≤ 8
  pub closures : (i : ℕ) → i < count → Closure file cells block (get_or cells (slot_of block count + i) 0) (term_at xs i lone)

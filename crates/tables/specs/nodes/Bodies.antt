-- What our own crates promise each other; nothing here has to be believed.
-- The nodes of bodies as they are filled: what each cell holds by the bytes of the file.
use Rattle.std.specs.Prelude.{ℕ, ◌+◌, ◌-◌, ◌*◌, ◌/◌, ◌%◌, ◌<◌, ◌≤◌, ◌≡◌, List, length, get_or}
use Rattle.casefile.specs.Fields.{byte, word}
use Rattle.index.specs.layout.Layout.{max_nonterminals, max_nodes, place_limit, rules_at, node_cells, number_cell, next_cell}
use Rattle.tables.specs.Frames.{Within}

-- the head cell of a node: its tag, and 4 for each argument
abbrev pub head_cell : ℕ → ℕ → ℕ
head_cell tag count = tag % 4 + 4 * count

-- r is the number of nodes of the payload at a place, 256 at most
pub record CountsNodes (file : List ℕ) (start r : ℕ) : Type 0 where
  pub few : r ≤ max_nodes
  pub counted : 4 ≤ start → word file (start - 4) / 4 ≤ max_nodes → r ≡ word file (start - 4) / 4

-- the tag of node i of the payload at a place
abbrev pub tag_at : List ℕ → ℕ → ℕ → ℕ
tag_at file start i = byte file (start + i * 4)

-- one node in three cells
pub record EntersNode (file : List ℕ) (place next cell : ℕ) (before after : List ℕ) : Type 0 where
  pub within : Within cell (cell + node_cells) before after
  pub head : get_or after cell 0 ≡ head_cell (byte file place) (byte file (place + 3))
  pub number : get_or after (cell + number_cell) 0 ≡ word file (place + 1)
  pub behind : get_or after (cell + next_cell) 0 ≡ next

pub record NodeSays (file : List ℕ) (start next i cell : ℕ) (t : List ℕ) : Type 0 where
  pub head : get_or t cell 0 ≡ head_cell (tag_at file start i) (byte file (start + i * 4 + 3))
  pub number : get_or t (cell + number_cell) 0 ≡ word file (start + i * 4 + 1)
  pub behind : get_or t (cell + next_cell) 0 ≡ next

-- the n nodes of a body
abbrev pub BodySays : List ℕ → ℕ → ℕ → List ℕ → ℕ → ℕ → List ℕ → Type 0
BodySays file start n ends first at t = (i : ℕ) → i < n → NodeSays file start (get_or ends (first + i) 0) i (at + i * node_cells) t

pub record FillsBody (file : List ℕ) (start n : ℕ) (ends : List ℕ) (first at : ℕ) (before after : List ℕ) : Type 0 where
  pub within : Within at (at + n * node_cells) before after
  pub says : n * 4 ≤ length file - start → at + n * node_cells ≤ length before → BodySays file start n ends first at after

-- the payload of rule f begins there, and its nodes there
abbrev pub start_of : List ℕ → ℕ → ℕ
start_of index f = get_or index (rules_at + f) 0

abbrev pub first_of : List ℕ → ℕ → ℕ
first_of firsts f = get_or firsts f 0

-- the rules have so many nodes, which lie in the file, one after another, and the table has room for them from a place on
pub record Bodied (file index firsts : List ℕ) (rules at : ℕ) (nodes : ℕ → ℕ) (size : ℕ) : Type 0 where
  pub headed : (f : ℕ) → f < rules → 4 ≤ start_of index f
  pub counted : (f : ℕ) → f < rules → nodes f ≡ word file (start_of index f - 4) / 4
  pub few : (f : ℕ) → f < rules → nodes f ≤ max_nodes
  pub there : (f : ℕ) → f < rules → nodes f * 4 ≤ length file - start_of index f
  pub apart : (f g : ℕ) → f < g → g < rules → first_of firsts f + nodes f ≤ first_of firsts g
  pub room : (f : ℕ) → f < rules → at + (first_of firsts f + nodes f) * node_cells ≤ size

pub record FillsNodes (file index ends firsts : List ℕ) (rules at : ℕ) (before after : List ℕ) : Type 0 where
  pub long : length after ≡ length before
  pub below : (i : ℕ) → i < at → get_or after i 0 ≡ get_or before i 0
  pub says : rules ≤ max_nonterminals → at < place_limit → (nodes : ℕ → ℕ) → Bodied file index firsts rules at nodes (length before)
      → (f : ℕ) → f < rules → BodySays file (start_of index f) (nodes f) ends (first_of firsts f) (at + first_of firsts f * node_cells) after

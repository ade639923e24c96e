-- What our own crates promise each other; nothing here has to be believed.
-- The rows of states, types and bindings as they are filled: what each cell holds by the bytes of the file and the cells of earlier rows.
use Rattle.std.specs.Prelude.{ℕ, ◌+◌, ◌-◌, ◌*◌, ◌/◌, ◌%◌, ◌<◌, ◌≤◌, ◌≡◌, List, length, get_or}
use Rattle.casefile.specs.Fields.{byte, word}
use Rattle.index.specs.layout.Layout.{max_states, max_types, max_bindings, max_members, types_at, bindings_at, rows_at, row_cells, goal_cell, members_cell, word_bits, no_number, pairs_at, pair_cells}
use Rattle.marks.specs.Marks.{bit_of}
use Rattle.tables.specs.Facts.{StateRow}
use Rattle.tables.specs.Frames.{Within, Adds}
use Rattle.tables.specs.declared.types.Among.{Among}
use Rattle.tables.specs.reading.Cells.{row_at, cell_of, result_of, end_of, states_of_spec, arrows_of_spec, many_of_spec, member_of_spec, near_of_spec, mask_of, symbol_of, own_of}

-- the goal that type m is, and the row of a type
abbrev pub row_of : ℕ → ℕ
row_of m = max_states + m

abbrev pub goal_of_spec : List ℕ → ℕ → ℕ
goal_of_spec t m = cell_of t (row_of m) goal_cell

-- the number of member j of the arrow whose payload begins at a place
abbrev pub member_in : List ℕ → ℕ → ℕ → ℕ
member_in file start j = word file (start + 2 + 2 * j)

-- the table has row i
abbrev pub Room : ℕ → List ℕ → Type 0
Room i t = row_at i + row_cells ≤ length t

-- the rows of the states
pub record FillsStates (before after : List ℕ) : Type 0 where
  pub within : Within rows_at (rows_at + max_states * row_cells) before after
  pub rows : rows_at + max_states * row_cells ≤ length before → (q : ℕ) → q < max_states → StateRow after q

-- r is how many members an arrow has whose payload has a length
pub record CountsMembers (len r : ℕ) : Type 0 where
  pub few : r ≤ max_members
  pub many : 2 ≤ len → len ≤ 34 → r ≡ (len - 2) / 2

-- the states among the first members of a goal, as bits
pub record StatesAmong (t : List ℕ) (g many r : ℕ) : Type 0 where
  pub small : r < 65536
  pub in_set : (j : ℕ) → j < many → member_of_spec t g j < max_states → bit_of (member_of_spec t g j) r ≡ 1
  pub only : (q : ℕ) → bit_of q r ≡ 1 → (j : ℕ) × (j < many) × (member_of_spec t g j ≡ q)

-- how many of the first members of a goal are arrows
pub record ArrowsAmong (t : List ℕ) (g many r : ℕ) : Type 0 where
  pub few : r ≤ many
  pub none : r ≡ 0 → (j : ℕ) → j < many → member_of_spec t g j < max_states

-- the word in which all of the first members of a goal stand, and their bits there, where it is a number
pub record NearAmong (t : List ℕ) (g many near mask : ℕ) : Type 0 where
  pub small : near < 65536
  pub fits : mask < 4294967296
  pub word : (near ≡ no_number → ⊥) → (j : ℕ) → j < many → member_of_spec t g j / word_bits ≡ near
  pub bit : (near ≡ no_number → ⊥) → (j : ℕ) → j < many → bit_of (member_of_spec t g j % word_bits) mask ≡ 1

-- what there is among members, with one member more
pub record AddsMember (among : Among) (x : ℕ) (after : Among) : Type 0 where
  pub few : after.arrows ≤ among.arrows + 1
  pub state : x < max_states → Adds among.states x after.states × (after.arrows ≡ among.arrows)
  pub arrow : max_states ≤ x → (after.states ≡ among.states) × (after.arrows ≡ among.arrows + 1)

-- the members of type m, and what there is among them
pub record FillsMembers (file : List ℕ) (start many m : ℕ) (before after : List ℕ) (among : Among) : Type 0 where
  pub within : Within (row_at (row_of m) + members_cell) (row_at (row_of m) + row_cells) before after
  pub member : (j : ℕ) → j < many → member_in file start j < m → member_of_spec after (row_of m) j ≡ goal_of_spec before (member_in file start j)
  pub states_so : StatesAmong after (row_of m) many among.states
  pub arrows_so : ArrowsAmong after (row_of m) many among.arrows

-- the row of an arrow, type m, whose payload begins at a place and has a length: its parts are those of earlier rows, where they are earlier
pub record ArrowSays (file : List ℕ) (start len m : ℕ) (t : List ℕ) : Type 0 where
  pub result : word file start < m → result_of t (row_of m) ≡ goal_of_spec t (word file start)
  pub end : word file start < m → end_of t (row_of m) ≡ end_of t (goal_of_spec t (word file start))
  pub many : 2 ≤ len → len ≤ 34 → many_of_spec t (row_of m) ≡ (len - 2) / 2
  pub member : 2 ≤ len → len ≤ 34 → (j : ℕ) → j < (len - 2) / 2 → member_in file start j < m → member_of_spec t (row_of m) j ≡ goal_of_spec t (member_in file start j)
  pub states : 2 ≤ len → len ≤ 34 → StatesAmong t (row_of m) ((len - 2) / 2) (states_of_spec t (row_of m))
  pub arrows : 2 ≤ len → len ≤ 34 → ArrowsAmong t (row_of m) ((len - 2) / 2) (arrows_of_spec t (row_of m))
  pub near : 2 ≤ len → len ≤ 34 → NearAmong t (row_of m) ((len - 2) / 2) (near_of_spec t (row_of m)) (mask_of t (row_of m))

-- the goals of the types before m are states or rows of types before m
abbrev pub Low : ℕ → List ℕ → Type 0
Low m t = (i : ℕ) → i < m → goal_of_spec t i < row_of m

pub record FillsArrow (file : List ℕ) (start len m : ℕ) (before after : List ℕ) : Type 0 where
  pub within : Within (row_at (row_of m)) (row_at (row_of m) + row_cells) before after
  pub goal_same : goal_of_spec after m ≡ goal_of_spec before m
  pub says : Low m before → ArrowSays file start len m after

-- the row of type m: a state, or an arrow
pub record TypeSays (file index : List ℕ) (m : ℕ) (t : List ℕ) : Type 0 where
  pub low : goal_of_spec t m < row_of m + 1
  pub state : 4 ≤ get_or index (types_at + m) 0 → word file (get_or index (types_at + m) 0 - 4) ≡ 1 → goal_of_spec t m ≡ byte file (get_or index (types_at + m) 0) % max_states
  pub arrow : 4 ≤ get_or index (types_at + m) 0 → (word file (get_or index (types_at + m) 0 - 4) ≡ 1 → ⊥) → (goal_of_spec t m ≡ row_of m) × ArrowSays file (get_or index (types_at + m) 0) (word file (get_or index (types_at + m) 0 - 4)) m t

pub record FillsType (file index : List ℕ) (m : ℕ) (before after : List ℕ) : Type 0 where
  pub within : Within (row_at (row_of m)) (row_at (row_of m) + row_cells) before after
  pub says : m < max_types → Room (row_of m) before → Low m before → TypeSays file index m after

-- the rows of all types
pub record FillsTypes (file index : List ℕ) (types : ℕ) (before after : List ℕ) : Type 0 where
  pub within : Within (row_at (row_of 0)) (row_at (row_of 0) + types * row_cells) before after
  pub says : types ≤ max_types → row_at (row_of 0) + types * row_cells ≤ length before → (m : ℕ) → m < types → TypeSays file index m after

-- the rows of all bindings: two cells of each
pub record FillsBindings (file index : List ℕ) (bindings : ℕ) (before after : List ℕ) : Type 0 where
  pub within : Within pairs_at (pairs_at + max_bindings * pair_cells) before after
  pub symbol : bindings ≤ max_bindings → pairs_at + bindings * pair_cells ≤ length before → (b : ℕ) → b < bindings → symbol_of after b ≡ word file (get_or index (bindings_at + b) 0)
  pub own : bindings ≤ max_bindings → pairs_at + bindings * pair_cells ≤ length before → (b : ℕ) → b < bindings → own_of after b ≡ goal_of_spec before (word file (get_or index (bindings_at + b) 0 + 2))

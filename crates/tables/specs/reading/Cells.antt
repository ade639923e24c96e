-- What our own crates promise each other; nothing here has to be believed.
-- The flat table of a check, cell by cell. A row is asked for by a number modulo a limit that none reaches.
use Rattle.std.specs.Prelude.{ℕ, zero, suc, ◌+◌, ◌*◌, ◌/◌, ◌%◌, List, eqb, get_or}
use Rattle.scheme.specs.Lists.{choose◌then◌else◌}
use Rattle.index.specs.layout.Layout.{max_states, max_nodes, max_members, max_constructors, groups_at, rows_at, row_limit, row_cells, result_cell, end_cell, states_cell, arrows_cell, many_cell, symbol_cell, own_cell, near_cell, low_cell, high_cell, members_cell, present_at, arities_at, targets_base, place_limit, node_cells, number_cell, next_cell, no_number, max_bindings, pairs_at, pair_cells}
use Rattle.tables.specs.declared.reading.Node.{Node}

-- where a row begins, and a cell of it
abbrev pub row_at : ℕ → ℕ
row_at i = rows_at + i % row_limit * row_cells

abbrev pub cell_of : List ℕ → ℕ → ℕ → ℕ
cell_of t i k = get_or t (row_at i + k) 0

-- the result of a goal, its final state, the states among its members, how many of them are arrows, how many there are, member j
abbrev pub result_of : List ℕ → ℕ → ℕ
result_of t g = cell_of t g result_cell

abbrev pub end_of : List ℕ → ℕ → ℕ
end_of t g = cell_of t g end_cell

abbrev pub states_of_spec : List ℕ → ℕ → ℕ
states_of_spec t g = cell_of t g states_cell

abbrev pub arrows_of_spec : List ℕ → ℕ → ℕ
arrows_of_spec t g = cell_of t g arrows_cell

abbrev pub many_of_spec : List ℕ → ℕ → ℕ
many_of_spec t g = cell_of t g many_cell

abbrev pub member_of_spec : List ℕ → ℕ → ℕ → ℕ
member_of_spec t g j = cell_of t g (members_cell + j % max_members)

-- the word in which all members of a goal stand as goals, and their bits there
abbrev pub near_of_spec : List ℕ → ℕ → ℕ
near_of_spec t g = cell_of t g near_cell

abbrev pub mask_of : List ℕ → ℕ → ℕ
mask_of t g = cell_of t g low_cell + 65536 * cell_of t g high_cell

-- the nonterminal of a binding, and its type as a goal
abbrev pub pair_at : ℕ → ℕ
pair_at b = pairs_at + b % max_bindings * pair_cells

abbrev pub symbol_of : List ℕ → ℕ → ℕ
symbol_of t b = get_or t (pair_at b + symbol_cell) 0

abbrev pub own_of : List ℕ → ℕ → ℕ
own_of t b = get_or t (pair_at b + own_cell) 0

-- the first binding of a nonterminal
abbrev pub group_of : List ℕ → ℕ → ℕ
group_of t f = get_or t (groups_at + f % row_limit) 0

-- a goal with k arrows off
unfoldable pub off_of : List ℕ → ℕ → ℕ → ℕ
off_of t zero g = g
off_of t (suc k) g = let rest = off_of t k (result_of t g) in choose eqb g no_number then no_number else rest

-- of a constructor: the states that have a transition, how many arguments it has; of a state besides: the targets
abbrev pub present_of_spec : List ℕ → ℕ → ℕ
present_of_spec t c = get_or t (present_at + c % max_constructors) 0

abbrev pub arity_of_spec : List ℕ → ℕ → ℕ
arity_of_spec t c = get_or t (arities_at + c % max_constructors) 0

abbrev pub targets_of_spec : List ℕ → ℕ → ℕ → ℕ
targets_of_spec t c q = get_or t (targets_base + c % max_constructors * max_states + q % max_states) 0

-- a node of the body whose nodes begin at a place
abbrev pub node_place : ℕ → ℕ → ℕ
node_place base i = base % place_limit + i % max_nodes * node_cells

unfoldable pub node_at : List ℕ → ℕ → ℕ → Node
node_at t base i =
    let head = get_or t (node_place base i) 0 in
    record { tag = head % 4; count = head / 4; number = get_or t (node_place base i + number_cell) 0; next = get_or t (node_place base i + next_cell) 0 }

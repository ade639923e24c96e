-- The layout of the tables for specs and proofs: the numbers of src/layout.rt, once. What our own crates promise each other
-- rests on it; nothing here has to be believed.
use Rattle.std.specs.Prelude.{ℕ, ◌+◌, ◌*◌}

-- the limits of the kind table, and of payloads
abbrev pub max_file : ℕ
max_file = 60000

abbrev pub max_sorts : ℕ
max_sorts = 64

abbrev pub max_constructors : ℕ
max_constructors = 32

abbrev pub max_nonterminals : ℕ
max_nonterminals = 256

abbrev pub max_states : ℕ
max_states = 16

abbrev pub max_transitions : ℕ
max_transitions = 512

abbrev pub max_types : ℕ
max_types = 1024

abbrev pub max_bindings : ℕ
max_bindings = 1024

abbrev pub max_letters : ℕ
max_letters = 4096

abbrev pub max_nodes : ℕ
max_nodes = 256

abbrev pub max_body : ℕ
max_body = max_nodes * 4

abbrev pub max_depth : ℕ
max_depth = 64

abbrev pub max_type : ℕ
max_type = 34

abbrev pub max_term : ℕ
max_term = 4096

-- the bytes of a node of a body
abbrev pub node_bytes : ℕ
node_bytes = 4

-- the index: where the entries of each kind begin, and what stands behind them
abbrev pub sorts_at : ℕ
sorts_at = 0

abbrev pub constructors_at : ℕ
constructors_at = sorts_at + max_sorts

abbrev pub nonterminals_at : ℕ
nonterminals_at = constructors_at + max_constructors

abbrev pub rules_at : ℕ
rules_at = nonterminals_at + max_nonterminals

abbrev pub transitions_at : ℕ
transitions_at = rules_at + max_nonterminals

abbrev pub types_at : ℕ
types_at = transitions_at + max_transitions

abbrev pub bindings_at : ℕ
bindings_at = types_at + max_types

abbrev pub states_at : ℕ
states_at = bindings_at + max_bindings

abbrev pub path_at : ℕ
path_at = states_at + 1

abbrev pub hashes : ℕ
hashes = 256

abbrev pub hashes_at : ℕ
hashes_at = path_at + 1

abbrev pub links_at : ℕ
links_at = hashes_at + hashes

abbrev pub places_at : ℕ
places_at = links_at + max_types

abbrev pub index_size : ℕ
index_size = places_at + max_transitions

-- the other tables
abbrev pub kinds : ℕ
kinds = 10

abbrev pub all_sorts : ℕ
all_sorts = max_sorts + 1

abbrev pub ends_size : ℕ
ends_size = 15000

abbrev pub most_nodes_at : ℕ
most_nodes_at = max_nonterminals

abbrev pub rows_size : ℕ
rows_size = max_nonterminals + 1

-- how many types the smaller rooms for their rows have room for
abbrev pub few_types : ℕ
few_types = 64

abbrev pub some_types : ℕ
some_types = 320

abbrev pub max_goals : ℕ
max_goals = max_types + max_states

-- a closure as a number
abbrev pub node_units : ℕ
node_units = 8192

abbrev pub place_units : ℕ
place_units = 131072

abbrev pub count_units : ℕ
count_units = 16

abbrev pub block_units : ℕ
block_units = 1048576

abbrev pub count_unit : ℕ
count_unit = 1073741824

abbrev pub block_unit : ℕ
block_unit = 17179869184

-- the bits of a word; the words of a cell of answers, and the most cells that a node has
abbrev pub word_bits : ℕ
word_bits = 32

abbrev pub cell_words : ℕ
cell_words = 3

abbrev pub max_cells : ℕ
max_cells = 33

-- the flat table of a check: the automaton, the groups of bindings, the rows, the nodes
abbrev pub targets_base : ℕ
targets_base = 0

abbrev pub present_at : ℕ
present_at = targets_base + max_constructors * max_states

abbrev pub arities_at : ℕ
arities_at = present_at + max_constructors

abbrev pub groups_at : ℕ
groups_at = arities_at + max_constructors

abbrev pub pairs_at : ℕ
pairs_at = groups_at + rows_size

abbrev pub pair_cells : ℕ
pair_cells = 2

abbrev pub rows_at : ℕ
rows_at = pairs_at + max_bindings * pair_cells

abbrev pub result_cell : ℕ
result_cell = 0

abbrev pub end_cell : ℕ
end_cell = 1

abbrev pub states_cell : ℕ
states_cell = 2

abbrev pub arrows_cell : ℕ
arrows_cell = 3

abbrev pub many_cell : ℕ
many_cell = 4

abbrev pub goal_cell : ℕ
goal_cell = 5

abbrev pub symbol_cell : ℕ
symbol_cell = 0

abbrev pub own_cell : ℕ
own_cell = 1

abbrev pub near_cell : ℕ
near_cell = 6

abbrev pub low_cell : ℕ
low_cell = 7

abbrev pub high_cell : ℕ
high_cell = 8

abbrev pub members_cell : ℕ
members_cell = 9

abbrev pub row_cells : ℕ
row_cells = 25

abbrev pub row_limit : ℕ
row_limit = 2048

abbrev pub place_limit : ℕ
place_limit = 131072

abbrev pub number_cell : ℕ
number_cell = 1

abbrev pub next_cell : ℕ
next_cell = 2

abbrev pub node_cells : ℕ
node_cells = 3

abbrev pub no_number : ℕ
no_number = 65535

abbrev pub max_members : ℕ
max_members = 16

-- the numbers of a test
abbrev pub test_own : ℕ
test_own = 0

abbrev pub test_base : ℕ
test_base = 1

abbrev pub test_binding : ℕ
test_binding = 2

abbrev pub test_stamp : ℕ
test_stamp = 3

abbrev pub test_wide : ℕ
test_wide = 4

abbrev pub test_words : ℕ
test_words = 5

abbrev pub test_bindings : ℕ
test_bindings = 6

abbrev pub test_users : ℕ
test_users = 7

abbrev pub test_answers : ℕ
test_answers = 8

-- the cells in front of the sets of candidates, the cells of hints
abbrev pub test_cells : ℕ
test_cells = 16

abbrev pub hint_cells : ℕ
hint_cells = 8192

abbrev pub few_hint_cells : ℕ
few_hint_cells = 2048

abbrev pub words_limit : ℕ
words_limit = 64

-- the words of a set of bindings
abbrev pub max_binding_words : ℕ
max_binding_words = 32

-- no number of an entry of two bytes reaches this
abbrev pub entry_limit : ℕ
entry_limit = 65536

-- what is written of a binding for its explanation: its round, the node, the goal, and a cell that is not used yet
abbrev pub reason_round : ℕ
reason_round = 0

abbrev pub reason_node : ℕ
reason_node = 1

abbrev pub reason_goal : ℕ
reason_goal = 2

abbrev pub reason_rest : ℕ
reason_rest = 3

abbrev pub reason_cells : ℕ
reason_cells = 4

-- the cells for all bindings
abbrev pub reasons_size : ℕ
reasons_size = max_bindings * reason_cells

-- the frames of binding cases: how many nodes, types and bindings each has room for
abbrev pub tiny_nodes : ℕ
tiny_nodes = 96

abbrev pub tiny_types : ℕ
tiny_types = 32

abbrev pub tiny_bindings_spec : ℕ
tiny_bindings_spec = 32

abbrev pub small_nodes : ℕ
small_nodes = 512

abbrev pub small_types : ℕ
small_types = 64

abbrev pub small_bindings_spec : ℕ
small_bindings_spec = 96

abbrev pub modest_nodes : ℕ
modest_nodes = 1024

abbrev pub modest_types : ℕ
modest_types = 32

abbrev pub modest_bindings_spec : ℕ
modest_bindings_spec = 224

abbrev pub plain_nodes : ℕ
plain_nodes = 2048

abbrev pub plain_types : ℕ
plain_types = 64

abbrev pub plain_bindings_spec : ℕ
plain_bindings_spec = 320

abbrev pub broad_nodes : ℕ
broad_nodes = 128

abbrev pub broad_types : ℕ
broad_types = 320

abbrev pub broad_bindings_spec : ℕ
broad_bindings_spec = 320

abbrev pub middle_nodes : ℕ
middle_nodes = 2048

abbrev pub middle_types : ℕ
middle_types = 320

abbrev pub middle_bindings_spec : ℕ
middle_bindings_spec = 320

abbrev pub wide_nodes : ℕ
wide_nodes = 4096

abbrev pub wide_types : ℕ
wide_types = 64

abbrev pub wide_bindings_spec : ℕ
wide_bindings_spec = 1024

-- the lengths of files that have tables of their own
abbrev pub tiny_file : ℕ
tiny_file = 384

abbrev pub small_file : ℕ
small_file = 1024

abbrev pub middle_file : ℕ
middle_file = 2048

abbrev pub long_file : ℕ
long_file = 8192

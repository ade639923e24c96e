-- What our own crates promise each other; nothing here has to be believed.
-- The index of a file: where the payload of each entry lies, kind by kind, in one array of file offsets.
use Rattle.std.specs.Prelude.{ℕ, ◌+◌, ◌<◌, ◌≤◌, ◌≡◌, List, [], length, get_or}
use Rattle.casefile.specs.Fields.{field, word}
use Rattle.casefile.specs.Records.{Record}
use Rattle.records.specs.cursor.Reading.{part_of}
use Rattle.casefile.specs.Kinds.{Kind, sort, constructor, nonterminal, rule, states, transition, type, binding, path, payloads, count, place_of}
use Rattle.index.specs.layout.Layout.{sorts_at, constructors_at, nonterminals_at, rules_at, transitions_at, types_at, bindings_at, states_at, path_at}

-- where the entries of a kind begin in the index: behind as many as each kind before may have
abbrev pub base : Kind → ℕ
base sort = sorts_at
base constructor = constructors_at
base nonterminal = nonterminals_at
base rule = rules_at
base transition = transitions_at
base type = types_at
base binding = bindings_at
base states = states_at
base path = path_at

-- after the records rs, the index holds n entries of kind k: the offset of each payload in the file, whose record
-- begins four bytes before it with its length
pub record Indexed (file index : List ℕ) (k : Kind) (n : ℕ) (rs : List Record) : Type 0 where
  pub counted : count k rs ≡ n
  pub behind_header : (i : ℕ) → i < n → 4 ≤ get_or index (base k + i) 0
  pub place_there : (i : ℕ) → i < n → place_of k rs i + 4 ≡ get_or index (base k + i) 0
  pub length_there : (i : ℕ) (at : ℕ) → i < n → at + 4 ≡ get_or index (base k + i) 0 → word file at ≡ length (get_or (payloads k rs) i [])
  pub payload_there : (i : ℕ) → i < n → part_of file (get_or index (base k + i) 0) (length (get_or (payloads k rs) i [])) ≡ get_or (payloads k rs) i []
  pub field_there : (i : ℕ) → i < n → (w at : ℕ) → at + w ≤ length (get_or (payloads k rs) i []) → field w file (get_or index (base k + i) 0 + at) ≡ field w (get_or (payloads k rs) i []) at

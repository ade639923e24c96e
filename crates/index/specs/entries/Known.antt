-- What our own crates promise each other; nothing here has to be believed.
-- What the arrays of the walk hold after the records that passed.
use Rattle.std.specs.Prelude.{ℕ, suc, ◌<◌, ◌≤◌, ◌≡◌, List, length, get_or}
use Rattle.scheme.specs.Sorts.{o, arguments}
use Rattle.casefile.specs.Records.{Record}
use Rattle.casefile.specs.Kinds.{Kind, sort, constructor, nonterminal, rule, states, transition, type, binding, path, number, payloads}
use Rattle.casefile.specs.Tables.{sorts_of}
use Rattle.index.specs.layout.Layout.{max_sorts, max_constructors, max_nonterminals, max_transitions, max_types, max_bindings}
use Rattle.index.specs.entries.Index.{Indexed}
use Rattle.index.specs.entries.Chains.{Chained}

-- how many entries of a kind the index has room for
abbrev pub room : Kind → ℕ
room sort = max_sorts
room constructor = max_constructors
room nonterminal = max_nonterminals
room rule = max_nonterminals
room transition = max_transitions
room type = max_types
room binding = max_bindings
room states = 1
room path = 1

-- the index holds every entry of every kind, `counts` how many there are of kind number k, `lens` the argument counts of the sorts,
-- and the types are chained by their hashes
pub record Known (file index lens counts : List ℕ) (rs : List Record) : Type 0 where
  pub entries : (k : Kind) → Indexed file index k (get_or counts (number k) 0) rs
  pub fits : (k : Kind) → get_or counts (number k) 0 ≤ room k
  pub sort_lens : (i : ℕ) → i < suc (get_or counts 1 0) → get_or lens i 0 ≡ length (arguments (get_or (sorts_of rs) i o))
  pub chained : Chained index (payloads type rs) (get_or counts 7 0)

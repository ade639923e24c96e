-- What our own crates promise each other; nothing here has to be believed.
-- The flat table as it is filled from the file of a binding case.
use Rattle.std.specs.Prelude.{ℕ, ◌+◌, ◌*◌, ◌/◌, ◌<◌, ◌≤◌, ◌≡◌, List, length, get_or, set, replicate}
use Rattle.casefile.specs.Records.{Record}
use Rattle.casefile.specs.Kinds.{Kind, payloads, count}
use Rattle.casefile.specs.Tables.{nodes_of}
use Rattle.casefile.specs.Promises.{Bytes, Passed}
use Rattle.index.specs.layout.Layout.{max_states, max_bindings, ends_size, word_bits, rows_at, row_cells, node_cells}
use Rattle.index.specs.entries.Known.{Known}
use Rattle.index.specs.Wholes.{Whole}
use Rattle.rules.specs.reading.RuleBodies.{nodes_in, rule_of, first_node}
use Rattle.intake.specs.plan.PlanTests.{EndsAre}
use Rattle.transitions.specs.places.RowPlaces.{RowsFor}
use Rattle.tables.specs.Facts.{TypesAre, BindingsAre, AutomatonIs, CandidatesAre, NodesAre}

-- what is known of the file of a binding case that is not refused: its index and counts, the ends of the subterms, where the nodes of each
-- rule begin, where the transitions lie; it has no more nodes than a file has room for, so no place of a node reaches place_limit
pub record Given (file index counts ends firsts : List ℕ) (rs : List Record) : Type 0 where
  pub lens : List ℕ
  pub bytes : Bytes file
  pub passed : Passed rs
  pub known : Known file index lens counts rs
  pub rules_all : count Kind.rule rs ≡ count Kind.nonterminal rs
  pub bodies : (f : ℕ) → f < count Kind.rule rs → Whole (rule_of rs f)
  pub few_nodes : nodes_in (payloads Kind.rule rs) ≤ ends_size
  pub firsts_are : (f : ℕ) → f < count Kind.rule rs → get_or firsts f 0 ≡ first_node rs f
  pub ends_are : EndsAre rs ends
  pub rows_are : RowsFor file index rs

-- where the nodes begin, and how long the table is
abbrev pub nodes_from : List Record → ℕ
nodes_from rs = rows_at + (count Kind.type rs + max_states) * row_cells

abbrev pub table_for : List Record → ℕ
table_for rs = nodes_from rs + nodes_in (payloads Kind.rule rs) * node_cells

-- the table of a file
pub record TableIs (rs : List Record) (t : List ℕ) : Type 0 where
  pub types : TypesAre rs t
  pub bindings : BindingsAre rs t
  pub automaton : AutomatonIs rs t
  pub bodies : (f : ℕ) → f < count Kind.rule rs → NodesAre (count Kind.nonterminal rs) t (nodes_from rs + first_node rs f * node_cells) (nodes_of (rule_of rs f))

-- the table after it was filled, and where its nodes begin
pub record FillsTable (file index counts ends firsts before t : List ℕ) (r : ℕ) : Type 0 where
  pub long : length t ≡ length before
  pub place : (rs : List Record) → Given file index counts ends firsts rs → r ≡ nodes_from rs
  pub filled : (rs : List Record) → Given file index counts ends firsts rs → table_for rs ≤ length before → TableIs rs t

-- how many words a set of bindings has
abbrev pub words_for : List Record → ℕ
words_for rs = (count Kind.binding rs + 31) / word_bits

-- the sets of candidates after all bindings were entered in sets that were empty
pub record FillsSets (t : List ℕ) (bindings words : ℕ) (before sets : List ℕ) : Type 0 where
  pub long : length sets ≡ length before
  pub filled : (rs : List Record) → TypesAre rs t → BindingsAre rs t → bindings ≡ count Kind.binding rs → bindings ≤ max_bindings → words ≡ words_for rs
      → (count Kind.type rs + max_states) * words ≤ length before → ((i : ℕ) → get_or before i 0 ≡ 0) → CandidatesAre rs (replicate bindings 1) sets words

-- the sets after binding b left them
pub record LeavesSets (t : List ℕ) (b words : ℕ) (before sets : List ℕ) : Type 0 where
  pub long : length sets ≡ length before
  pub left : (rs : List Record) (kept : List ℕ) → TypesAre rs t → BindingsAre rs t → b < count Kind.binding rs → b < length kept → words ≡ words_for rs → CandidatesAre rs kept before words → CandidatesAre rs (set kept b 0) sets words

-- What our own crates promise each other; nothing here has to be believed.
-- How many nodes the rules have, and where those of each rule begin.
use Rattle.std.specs.Prelude.{ℕ, ◌/◌, ◌<◌, ◌≤◌, ◌≡◌, List, length, get_or}
use Rattle.casefile.specs.Records.{Record}
use Rattle.casefile.specs.Kinds.{Kind, payloads}
use Rattle.casefile.specs.Promises.{Passed}
use Rattle.index.specs.layout.Layout.{max_nonterminals, max_nodes, most_nodes_at, rows_size}
use Rattle.index.specs.entries.Index.{Indexed}
use Rattle.rules.specs.reading.RuleBodies.{nodes_in, rule_of, first_node}

-- r is the number of nodes of rule f, 256 at most
pub record CountsNodes (file index : List ℕ) (f r : ℕ) : Type 0 where
  pub few : r ≤ max_nodes
  pub nodes : (rules : ℕ) (rs : List Record) → Passed rs → Indexed file index Kind.rule rules rs → rules ≤ max_nonterminals → f < rules → r ≡ length (rule_of rs f) / 4

-- r is the number of nodes of all rules
pub record CountsAll (file index : List ℕ) (rules r : ℕ) : Type 0 where
  pub all : (rs : List Record) → Passed rs → Indexed file index Kind.rule rules rs → rules ≤ max_nonterminals → r ≡ nodes_in (payloads Kind.rule rs)

-- the promise, for a file whose records passed: entry f is the number of the first node of rule f, and no rule has more nodes than entry 256 says
pub record FillsFirsts (file index : List ℕ) (rules : ℕ) (before after : List ℕ) : Type 0 where
  pub firsts : (rs : List Record) → Passed rs → Indexed file index Kind.rule rules rs → rules ≤ max_nonterminals → rows_size ≤ length before → (f : ℕ) → f < rules → get_or after f 0 ≡ first_node rs f
  pub most : (rs : List Record) → Passed rs → Indexed file index Kind.rule rules rs → rules ≤ max_nonterminals → rows_size ≤ length before → (f : ℕ) → f < rules → length (rule_of rs f) / 4 ≤ get_or after most_nodes_at 0

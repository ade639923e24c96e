-- What our own crates promise each other; nothing here has to be believed.
-- The groups of bindings in the flat table.
use Rattle.std.specs.Prelude.{ℕ, ◌<◌, ◌≤◌, ◌≡◌, List, length, take, drop}
use Rattle.casefile.specs.Records.{Record}
use Rattle.casefile.specs.Kinds.{Kind, count}
use Rattle.casefile.specs.Promises.{Passed}
use Rattle.index.specs.layout.Layout.{max_bindings, rows_size, groups_at, pairs_at}
use Rattle.index.specs.entries.Index.{Indexed}
use Rattle.goals.specs.groups.Groups.{Grouped}

-- the part of the table that has the groups
abbrev pub groups_in : List ℕ → List ℕ
groups_in t = take rows_size (drop groups_at t)

pub record FillsGroups (file index : List ℕ) (n last : ℕ) (before after : List ℕ) : Type 0 where
  pub long : length after ≡ length before
  pub grouped : pairs_at ≤ length before → last < rows_size → (rs : List Record) → Passed rs → Indexed file index Kind.binding n rs → n ≤ max_bindings → count Kind.nonterminal rs ≤ last → Grouped rs n (groups_in after)

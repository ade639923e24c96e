-- What our own crates promise each other; nothing here has to be believed.
-- Bodies that are terms. Section "The case file" of the scope.
use Rattle.std.specs.Prelude.{ℕ, ◌*◌, ◌/◌, ◌<◌, ◌≤◌, ◌≡◌, List, [], length, get_or}
use Rattle.scheme.specs.Prefix.{flat}
use Rattle.casefile.specs.Fields.{byte}
use Rattle.casefile.specs.Records.{Record}
use Rattle.casefile.specs.Kinds.{Kind, payloads}
use Rattle.casefile.specs.Tables.{nodes_of, body_of}
use Rattle.index.specs.layout.Layout.{max_nodes}
use Rattle.index.specs.entries.Index.{Indexed}

-- a body that is one term of at most 256 nodes, with known tags
pub record Whole (p : List ℕ) : Type 0 where
  pub one_term : nodes_of p ≡ flat (body_of p)
  pub short : length p / 4 ≤ max_nodes
  pub tags : (i : ℕ) → i < length p / 4 → byte p (i * 4) ≤ 2

-- the index has a given number of rules, whose bodies are terms
pub record Bodies (file index : List ℕ) (rules : ℕ) (rs : List Record) : Type 0 where
  pub there : Indexed file index Kind.rule rules rs
  pub whole : (f : ℕ) → f < rules → Whole (get_or (payloads Kind.rule rs) f [])

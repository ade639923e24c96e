-- What our own crates promise each other; nothing here has to be believed.
-- The nodes of bodies where they stand in a file. Section "The case file" of the scope.
use Rattle.std.specs.Prelude.{ℕ, ◌+◌, ◌<◌, ◌≤◌, ◌≡◌, List, [], ◌∷◌}
use Rattle.scheme.specs.Terms.{Head}
use Rattle.scheme.specs.Prefix.{Node}
use Rattle.casefile.specs.Fields.{byte, word}
use Rattle.casefile.specs.Tables.{head_of}
use Rattle.index.specs.layout.Layout.{place_units}

-- the head with a tag and a number
abbrev pub head_by : ℕ → ℕ → Head
head_by tag number = head_of (record { tag = tag; number = number; count = 0 })

-- a node stands at a place of a file, with a known tag
pub record NodeAt (file : List ℕ) (p : ℕ) (n : Node) : Type 0 where
  pub near : p < place_units
  pub tag : byte file p ≤ 2
  pub head_is : head_by (byte file p) (word file (p + 1)) ≡ n.head
  pub count_is : byte file (p + 3) ≡ n.count

-- nodes stand one after another from a place on, four bytes each
unfoldable pub NodesAt : List ℕ → ℕ → List Node → Type 0
NodesAt file p [] = Unit {0}
NodesAt file p (n ∷ ns) = NodeAt file p n × NodesAt file (p + 4) ns

-- What our own crates promise each other; nothing here has to be believed.
-- A node of a body by the byte that it begins at.
use Rattle.std.specs.Prelude.{ℕ, ◌+◌, List}
use Rattle.casefile.specs.Fields.{byte, word}
use Rattle.casefile.specs.Tables.{Cell}

-- the node of a body at byte i of its payload
abbrev pub cell_from : List ℕ → ℕ → Cell
cell_from p i = record { tag = byte p i; number = word p (i + 1); count = byte p (i + 3) }

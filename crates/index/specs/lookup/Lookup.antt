-- What our own crates promise each other; nothing here has to be believed.
-- The payload of an entry by its number in the index: the header four bytes before it has its length.
use Rattle.std.specs.Prelude.{ℕ, ◌-◌, List, [], ltb, get_or}
use Rattle.scheme.specs.Lists.{choose◌then◌else◌}
use Rattle.casefile.specs.Fields.{word}
use Rattle.records.specs.cursor.Reading.{part_of}

-- the payload of entry i of an index of a file; empty where the index has no such entry
unfoldable pub entry_of : List ℕ → List ℕ → ℕ → List ℕ
entry_of file index i = choose ltb (get_or index i 0) 4 then [] else part_of file (get_or index i 0) (word file (get_or index i 0 - 4))

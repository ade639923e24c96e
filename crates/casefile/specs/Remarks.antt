-- What a file says, wherever its records stand, and a file without its remarks. Note 1 of the change requests.
use Rattle.std.specs.Prelude.{ℕ, ◌+◌, List, [], ◌∷◌, ◌++◌, map, length, take, drop}
use Rattle.casefile.specs.Records.{Record, Walk, records_of, listed}

-- a kind and a payload
pub record Content : Type 0 where
  pub kind : ℕ
  pub payload : List ℕ

-- what a record says: all but its place
unfoldable pub content_of : Record → Content
content_of r = record { kind = r.kind; payload = r.payload }

-- what the records of a walk say, in order
unfoldable pub told : Walk → List Content
told w = map content_of (listed w)

-- what a file says: kind and payload of each record that counts, in file order
unfoldable pub contents : List ℕ → List Content
contents s = told (records_of s)

-- the bytes that a record of a file fills: its header and its payload
unfoldable pub bytes_at : List ℕ → Record → List ℕ
bytes_at s r = take (4 + length r.payload) (drop r.place s)

-- those of some records, one behind the other
unfoldable pub copied : List ℕ → List Record → List ℕ
copied s [] = []
copied s (r ∷ rs) = bytes_at s r ++ copied s rs

-- a file without its remarks: its records that count, with no byte between them
unfoldable pub without_remarks : List ℕ → List ℕ
without_remarks s = copied s (listed (records_of s))

-- What our own crates promise each other of a file's records and bytes; nothing here has to be believed.
use Rattle.std.specs.Prelude.{ℕ, ◌+◌, ◌*◌, ◌<◌, ◌≡◌, List, [], ◌∷◌, ◌++◌, length, get_or}
use Rattle.std.proofs.Math.Option.{none}
use Rattle.casefile.specs.Fields.{field}
use Rattle.casefile.specs.Records.{Record, Walk, walk, counting}
use Rattle.casefile.specs.Tables.{Cell}
use Rattle.casefile.specs.Refusals.{refuse_record}

-- every element is a byte
abbrev pub Bytes : List ℕ → Type 0
Bytes s = (i : ℕ) → get_or s i 0 < 256

-- node i of a body as the file has it
abbrev pub cell_at : List ℕ → ℕ → Cell
cell_at p i = record { tag = field 1 p (i * 4); number = field 2 p (i * 4 + 1); count = field 1 p (i * 4 + 3) }

-- the records that count, from a place on
abbrev pub records_from : List ℕ → ℕ → Walk
records_from s at = counting (walk (length s) s at)

-- each record passed 3 to 7 after those before it
pub data Passed : List Record → Type 0 where
  nothing : Passed []
  also : {rs : List Record} (r : Record) → Passed rs → refuse_record rs r ≡ none → Passed (rs ++ (r ∷ []))

-- Records and the walk over a file. Section "The case file" of the scope; remarks: Note 1 of the change requests.
use Rattle.std.specs.Prelude.{ℕ, zero, suc, ◌+◌, Bool, ◌&&◌, List, [], ◌∷◌, length, take, drop, leb}
use Rattle.scheme.specs.Lists.{choose◌then◌else◌}
use Rattle.casefile.specs.Fields.{word}

-- "A record is a two-byte payload length, a two-byte kind, then the payload"; its place is its first byte
pub record Record : Type 0 where
  pub place : ℕ
  pub kind : ℕ
  pub payload : List ℕ

-- neither the header nor the payload of the record at a place "runs past the end"
unfoldable pub whole : List ℕ → ℕ → Bool
whole s at = leb (at + 4) (length s) && leb (at + 4 + word s at) (length s)

-- the record at a place, "handed on as the part of the file it fills"
unfoldable pub record_at : List ℕ → ℕ → Record
record_at s at = record { place = at; kind = word s (at + 2); payload = take (word s at) (drop (at + 4) s) }

-- what stands in a file from a place on: its end, a record that runs past it, or a whole record and what follows
pub data Walk : Type 0 where
  end : Walk
  cut : ℕ → Walk
  next : Record → Walk → Walk

-- the walk from a place on, over at most n records
unfoldable pub walk : ℕ → List ℕ → ℕ → Walk
walk zero s at = end
walk (suc n) s at =
    let rest = walk n s (at + 4 + word s at) in
    choose leb (length s) at then end else (choose whole s at then next (record_at s at) rest else cut at)

-- "Kinds 8000 (hexadecimal) and above are remarks"
unfoldable pub is_remark : ℕ → Bool
is_remark kind = leb 0x8000 kind

-- a walk over the records that count: remarks "are stepped over"; one that runs past the end is met as any other record
unfoldable pub counting : Walk → Walk
counting end = end
counting (cut at) = cut at
counting (next r w) = let rest = counting w in choose is_remark r.kind then rest else next r rest

-- the walk over a file; a record fills at least four bytes, so there are no more records than bytes
unfoldable pub records_of : List ℕ → Walk
records_of s = counting (walk (length s) s 0)

-- the whole records of a walk, up to its end or to the first that is cut
unfoldable pub listed : Walk → List Record
listed end = []
listed (cut at) = []
listed (next r w) = r ∷ listed w

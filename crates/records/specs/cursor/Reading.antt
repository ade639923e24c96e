-- What our own crates promise each other; nothing here has to be believed.
-- What reading a file from a place on finds. Section "The case file" of the scope, and refusal 2 of its table.
use Rattle.std.specs.Prelude.{ℕ, ◌+◌, List, [], length, take, drop, leb, Option, Some, None, Result, Ok, Err}
use Rattle.scheme.specs.Lists.{choose◌then◌else◌}
use Rattle.casefile.specs.Records
use Rattle.casefile.specs.Records.{Walk, end, cut, next}
use Rattle.casefile.specs.Promises.{records_from}
use Rattle.records.specs.declared.cursor.Record.{Record}
use Rattle.records.specs.declared.refusal.Refusal.{Refusal}
use Rattle.records.specs.declared.refusal.Fault.TheVariants.{CutOff}

-- a record, as what reading it gives: its place, its payload's start and length, its kind, the place behind it
abbrev pub read_record : Records.Record → Result (Option Record) Refusal
read_record r = Ok (Some (record { place = r.place; start = r.place + 4; len = length r.payload; kind = r.kind; next = record { at = r.place + 4 + length r.payload } }))

-- the first of a walk: its end, refusal 2 at the place of a record that "runs past the end", or a record
unfoldable pub read_first : Walk → Result (Option Record) Refusal
read_first end = Ok None
read_first (cut at) = Err (record { fault = CutOff; place = at })
read_first (next r w) = read_record r

-- "The record reader now promises the next record that counts": the first of those from a place on
unfoldable pub read_at : List ℕ → ℕ → Result (Option Record) Refusal
read_at s at = read_first (records_from s at)

-- the len bytes from start on; nothing where they run past the end
unfoldable pub part_of : List ℕ → ℕ → ℕ → List ℕ
part_of s start len = choose leb (start + len) (length s) then take len (drop start s) else []

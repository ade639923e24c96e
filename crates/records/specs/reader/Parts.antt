-- What our own crates promise each other; nothing here has to be believed.
-- The part of a file that a record's payload fills.
use Rattle.std.specs.Prelude.{ℕ, List, [], Option, Some, None, Result, Ok, Err}
use Rattle.records.specs.cursor.Reading.{part_of}
use Rattle.records.specs.declared.cursor.Record.{Record}
use Rattle.records.specs.declared.refusal.Refusal.{Refusal}

-- the payload of what was read; nothing where no record was read
abbrev pub payload_of_spec : List ℕ → Result (Option Record) Refusal → List ℕ
payload_of_spec s (Ok (Some r)) = part_of s r.start r.len
payload_of_spec s (Ok None) = []
payload_of_spec s (Err r) = []

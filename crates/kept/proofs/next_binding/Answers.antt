-- Each record ends behind the place that it was read from.
use Rattle.std.proofs.Common.{◌≡◌, Ok, Some, arith}
use Rattle.records.specs.cursor.Reading.{read_at}
use Rattle.records.proofs.cursor.Reading.{read_record_law}
use Rattle.kept.proofs.next_binding.Goals as goal

pub loop-record-smaller : goal.loop-record-smaller
loop-record-smaller c =
    let is : read_at c.args.file.now c.loop-record.cursor.at ≡ Ok (Some c.in-Ok-Some.record) = cc in
    let read = read_record_law _ _ _ is in
    omega arith

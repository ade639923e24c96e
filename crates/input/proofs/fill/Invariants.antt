-- The bytes that were read stand in the buffer, which stays as long as it was.
use Rattle.std.proofs.Common.{◌≡◌, ◌≤◌, length}
use Rattle.input.proofs.fill.Given as goal

abbrev pub invariant-loop-turn : goal.invariant-loop-turn
invariant-loop-turn g l = (length l.buffer ≡ length l.initial.buffer) × (l.at ≤ length l.buffer)

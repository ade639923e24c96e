-- `quiet` meets its contract. The invariant: where what was read has no bit together, no word of it has one.
use native.Mathlib.Omega.{arith}
use Prim.Native.Nat.{◌+◌, ◌-◌}
use lib.ListN.{drop}
use lib.Seq.{get_or-take, get_or-drop}
use Rattle.marks.proofs.Sets.{quiet_more}
use Rattle.marks.proofs.quiet.Goals as goal

pub loop-word-preserved : goal.loop-word-preserved
loop-word-preserved c = rw (get_or-take (c.args.i + 8 - c.args.i) (drop c.args.i c.args.words.now) c.loop-word.word-index 0 (omega arith), get_or-drop c.args.i c.args.words.now c.loop-word.word-index 0) (quiet_more c.loop-word.invariant)

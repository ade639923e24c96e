-- `with_bit` meets its contract.
use Rattle.tables.proofs.Frames.{adds}
use Rattle.tables.proofs.bits.with_bit.Goals as goal

pub returns : goal.returns
returns c = adds _ _

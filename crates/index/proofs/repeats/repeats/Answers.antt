-- `repeats` meets its contract: the entries from `base` on are the payloads of the kind.
use Prim.Native.Nat.{◌+◌}
use mathlib.Core.Path.{refl}
use mathlib.Core.Logic.{⊎_elim}
use native.Mathlib.Omega.{arith}
use borrow.Author.Tests.{tests}
use Rattle.std.proofs.Common.{rules}
use Rattle.std.proofs.lemmas.Iterator.{YieldsList-from_range}
use Rattle.std.proofs.lemmas.Iterator.Search.{any_from_yields_List}
use Rattle.index.proofs.repeats.Seeking.{Same, seek, base_few}
use Rattle.index.proofs.repeats.repeats.Goals as goal

pub returns-then-base-gt4096 : goal.returns-then-base-gt4096
returns-then-base-gt4096 c = λ k rs ib ix m l. let few = base_few c.args.base k ib in ⊎_elim (λ w. absurd (omega arith)) (λ w. absurd (omega arith)) c.then-base-gt4096.either

pub returns : goal.returns
returns c =
    let y = YieldsList-from_range c.args.base (c.args.base + c.args.n) c.args.n refl (omega arith) in
    seek c.args.file.now c.args.index.now c.args.p.now c.args.base c.args.n _
    (any_from_yields_List (Same c.args.file.now c.args.index.now c.args.p.now) _ _ _ c.any.ensures.ran y (λ x b q k. search (rules, tests)))

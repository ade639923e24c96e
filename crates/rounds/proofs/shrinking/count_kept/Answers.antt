-- `count_kept` meets its contract.
use borrow.Author.Rules.{rules}
use native.Mathlib.Omega.{arith}
use mathlib.Core.Path.{◌≡◌}
use lib.ListN.{take}
use lib.Seq.{length-take-le}
use Rattle.std.proofs.Common.{tests}
use Rattle.std.proofs.lemmas.Iterator.{YieldsList-from_slice}
use Rattle.std.proofs.lemmas.Iterator.Adapters.{at_most_from_yields_List, fits_from_length}
use Rattle.rounds.proofs.shrinking.Counting.{marked_in, counts}
use Rattle.rounds.proofs.shrinking.count_kept.Goals as goal

pub sum-requires-clause-fits : goal.sum-requires-clause-fits
sum-requires-clause-fits c =
    let long = length-take-le c.args.n c.args.flags.now c.if-flags-n.false in
    fits_from_length _ _ 18446744073709551615 _ (at_most_from_yields_List (YieldsList-from_slice (take c.args.n c.args.flags.now) cc) (omega (arith, c.ranges.n))) c.map.ensures.closure (omega arith) (λ x r q k. search (rules, tests))

pub returns : goal.returns
returns c = let e : c.sum.result ≡ marked_in (take c.args.n c.args.flags.now) = search rules in counts _ _ _ c.if-flags-n.false e

-- `add_entry` meets its contract.
use Prim.Native.Nat.{ℕ, ◌+◌}
use mathlib.Core.Path.{◌≡◌, ap, ap₂, ◌∙◌}
use lib.ListN.{get_or}
use Rattle.casefile.specs.Kinds.{number}
use Rattle.index.specs.enter.Entering.{stored}
use Rattle.records.specs.kind.Kinds.{kind_as}
use Rattle.records.proofs.kind.Numbers.{number_as}
use Rattle.walk.proofs.kinds.add_entry.Goals as goal

pub returns : goal.returns
returns c =
    let same = number_as c.args.kind in
    let n : c.count_of-n.result ≡ get_or c.args.counts.now (number (kind_as c.args.kind)) 0 = c.count_of-n.ensures.value ∙ ap (λ (i : ℕ). get_or c.args.counts.now i 0) same in
    record {
      index_is = c.store.ensures ∙ ap₂ (λ b m. stored c.args.index.now (b + m) c.args.start) c.entries_at.ensures.0 n;
      counts_are = c.store-2.ensures ∙ ap₂ (λ k m. stored c.args.counts.now k (m + 1)) (c.from.ensures ∙ same) n;
    }

-- `bindings_within` meets its contract.
use Prim.Native.Nat.{ℕ}
use native.Mathlib.Omega.{arith}
use mathlib.Core.Path.{◌≡◌}
use lib.ListN.{length}
use Rattle.index.specs.layout.Layout.{index_size, rows_size}
use Rattle.plan_check.proofs.Lending.{zeros, frame_judges}
use borrow.Author.Rules.{rules}
use Rattle.plan_check.proofs.frames.bindings_within.Goals as goal

pub returns : goal.returns
returns g c =
    let a = c.args in
    let i : ◌≡◌ {A = ℕ} index_size (length a.index.now) = search rules in
    let f : ◌≡◌ {A = ℕ} rows_size (length a.firsts.now) = search rules in
    λ nodes types bindings enough.
    frame_judges enough (omega arith) (search rules) (search rules) (search rules) (zeros g.row.READ) (zeros g.row.WRITE) (omega arith) c.judge_bindings.ensures

-- `judge_within` meets its contract.
use native.Mathlib.Omega.{arith}
use mathlib.Core.Path.{◌≡◌}
use Rattle.plan_check.specs.Promises.{verdict_of}
use Rattle.plan_check.proofs.Judged.{demands}
use borrow.Author.Rules.{rules}
use Rattle.plan_check.proofs.judge_within.Goals as goal

pub returns : goal.returns
returns g c =
    let is : c.unwrap_or_else.result ≡ verdict_of c.judge_with.result = search rules in
    let all = demands (c.judge_with.ensures (record { nodes = λ few n h. omega arith })) in
    rw (is) (record { demand1 = all.0; demand2 = all.1.0; demand3 = all.1.1 })

-- `examine` meets its contract.
use Prim.Native.Nat.{ℕ, ◌≤◌}
use native.Mathlib.Omega.{arith}
use mathlib.Core.Path.{◌≡◌, sym}
use lib.ListN.{length}
use Rattle.std.specs.Prelude.{Err}
use Rattle.intake.proofs.intake.Taking.{taken_long, taken_refused, taken_whole}
use borrow.Author.Rules.{rules}
use Rattle.index.specs.layout.Layout.{max_file, index_size, kinds, all_sorts}
use Rattle.intake.proofs.intake.examine.Goals as goal

pub returns-then-file-gt-MAX_FILE : goal.returns-then-file-gt-MAX_FILE
returns-then-file-gt-MAX_FILE c = record { found = λ room. rw c.at.ensures (taken_long _ _ _ _ _ _ (omega arith)) }

pub returns-in_err-walk : goal.returns-in_err-walk
returns-in_err-walk c =
    let a = c.args in
    let i : ◌≡◌ {A = ℕ} index_size (length a.index.now) = search rules in
    let l : ◌≡◌ {A = ℕ} all_sorts (length a.lens.now) = search rules in
    let k : ◌≡◌ {A = ℕ} kinds (length a.counts.now) = search rules in
    let short : length a.file.now ≤ max_file = omega arith in
    let walked = c.walk.ensures (omega arith) (sym l) (sym k) short in
    let same : c.from_residual.result ≡ Err c.in_err-walk.field-0.0 = search rules in
    record { found = λ room. rw same (taken_refused _ _ _ _ _ _ short _ _ c.in_err-walk.was walked) }

pub returns : goal.returns
returns c =
    let a = c.args in
    let i : ◌≡◌ {A = ℕ} index_size (length a.index.now) = search rules in
    let l : ◌≡◌ {A = ℕ} all_sorts (length a.lens.now) = search rules in
    let k : ◌≡◌ {A = ℕ} kinds (length a.counts.now) = search rules in
    let short : length a.file.now ≤ max_file = omega arith in
    let walked = c.walk.ensures (omega arith) (sym l) (sym k) short in
    record { found = λ room. taken_whole _ _ _ _ _ _ short _ _ c.in_ok-walk.was walked a.ends.now room _ c.test_whole.ensures }

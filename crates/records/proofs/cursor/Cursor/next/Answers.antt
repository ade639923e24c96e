-- `Cursor::next` meets its contract.
use Prim.Native.Nat.{◌+◌}
use mathlib.Core.Path.{◌≡◌, sym, ap, ◌∙◌}
use mathlib.Core.Bool.{true, false}
use native.Mathlib.Omega.{arith}
use borrow.Author.Tests.{not-false, not-true}
use Rattle.std.specs.Prelude.{Err}
use Rattle.casefile.specs.Fields.{word}
use Rattle.casefile.specs.Records.{is_remark}
use Rattle.casefile.proofs.Walk.{whole_fits, whole_cut}
use Rattle.records.specs.cursor.Reading.{read_at}
use Rattle.records.proofs.cursor.Reading.{read_past, read_whole, read_cut, read_remark}
use Rattle.records.proofs.cursor.Cursor.next.Goals as goal

pub returns-then-file-at : goal.returns-then-file-at
returns-then-file-at c =
    let len = c.word_at-len.ensures.value in
    ap Err c.at.ensures ∙ sym (c.loop-at.invariant ∙ read_cut _ _ (omega arith) (whole_cut _ _ (omega arith)))

pub returns-then-counts : goal.returns-then-counts
returns-then-counts c =
    let file = c.args.file.now in
    let at = c.loop-at.at in
    let len = c.word_at-len.ensures.value in
    let kind = c.word_at-kind.ensures.value in
    let few = c.word_at-kind.ensures.bound in
    let no-remark : is_remark (word file (at + 2)) ≡ false = not-true _ (rw kind at (sym (c.counts.ensures few) ∙ c.if-counts.true)) in
    rw (len, kind) (sym (c.loop-at.invariant ∙ read_whole file at (omega arith) (whole_fits _ _ (omega arith)) no-remark))

pub loop-at-preserved : goal.loop-at-preserved
loop-at-preserved c =
    let file = c.args.file.now in
    let at = c.loop-at.at in
    let len = c.word_at-len.ensures.value in
    let kind = c.word_at-kind.ensures.value in
    let few = c.word_at-kind.ensures.bound in
    let remark : is_remark (word file (at + 2)) ≡ true = not-false _ (rw kind at (sym (c.counts.ensures few) ∙ c.if-counts.false)) in
    c.loop-at.invariant ∙ read_remark file at (omega arith) (whole_fits _ _ (omega arith)) remark ∙ ap (read_at file) (omega arith)

pub returns : goal.returns
returns c = sym (c.loop-at.invariant ∙ read_past _ _ (omega arith))

-- `test_binding` meets its contract.
use Prim.Native.Nat.{ℕ, ◌<◌}
use mathlib.Core.Path.{◌≡◌, ◌∙◌}
use lib.ListN.{length}
use Rattle.casefile.specs.Fields.{word}
use mathlib.Core.List.{List}
use native.Mathlib.Omega.{arith}
use borrow.Author.Tests.{lt-leb, eq-eqb}
use Rattle.scheme.specs.Lists.{choose◌then◌else◌}
use Rattle.casefile.specs.Records.{Record}
use Rattle.casefile.specs.Kinds.{nonterminal, type, binding, count}
use Rattle.casefile.specs.Refusals.{wrong_length, too_many, too_large, out_of_range, misplaced}
use Rattle.index.specs.layout.Layout.{max_bindings}
use Rattle.index.specs.entries.Codes.{code_for}
use Rattle.index.proofs.entries.Earlier.{first_binding, next_binding}
use Rattle.record_tests.proofs.ordered.Pairs.{before_is}
use Rattle.record_tests.proofs.ordered.test_binding.Goals as goal

-- where 4 to 6 are not met, 7 decides
decided : (rs : List Record) (p : List ℕ) {n f t fs ts : ℕ} → length p ≡ 4 → n < max_bindings → f ≡ word p 0 → t ≡ word p 2 → f < fs → t < ts
    → count binding rs ≡ n → count nonterminal rs ≡ fs → count type rs ≡ ts → (choose misplaced rs p binding then 7 else 0) ≡ code_for rs p binding
unfolding code_for wrong_length too_many too_large out_of_range
decided rs p {n} {f} {t} {fs} {ts} l few ef et lf lt n' fs' ts' =
    simp (eq-eqb (length p) 4 l, n', lt-leb max_bindings n few, fs', ts', ← ef, ← et, lt-leb fs f lf, lt-leb ts t lt)

pub returns-then-n-eq0 : goal.returns-then-n-eq0
returns-then-n-eq0 c rs ix fit e t =
    let d = decided rs c.args.p.now c.if-p-ne4.false c.if-n-ge-MAX_BINDINGS.false c.word_at-f.ensures.value c.word_at-t.ensures.value c.if-nonterminals-f.false c.if-types-t.false ix.counted e t in
    rw (first_binding c.args.p.now ix c.if-n-eq0.true) at d

pub returns-then-lt : goal.returns-then-lt
returns-then-lt c rs ix fit e t =
    let d = decided rs c.args.p.now c.if-p-ne4.false c.if-n-ge-MAX_BINDINGS.false c.word_at-f.ensures.value c.word_at-t.ensures.value c.if-nonterminals-f.false c.if-types-t.false ix.counted e t in
    let o = next_binding c.args.p.now (omega arith) (c.lt.ensures ∙ before_is _ _ _ _) ix fit c.place_at-last.ensures.value c.word_at-g.ensures.value c.word_at-u.ensures.value c.word_at-f.ensures.value c.word_at-t.ensures.value in
    rw (o, c.if-lt.true) at d

pub returns-else-lt : goal.returns-else-lt
returns-else-lt c rs ix fit e t =
    let d = decided rs c.args.p.now c.if-p-ne4.false c.if-n-ge-MAX_BINDINGS.false c.word_at-f.ensures.value c.word_at-t.ensures.value c.if-nonterminals-f.false c.if-types-t.false ix.counted e t in
    let o = next_binding c.args.p.now (omega arith) (c.lt.ensures ∙ before_is _ _ _ _) ix fit c.place_at-last.ensures.value c.word_at-g.ensures.value c.word_at-u.ensures.value c.word_at-f.ensures.value c.word_at-t.ensures.value in
    rw (o, c.if-lt.false) at d

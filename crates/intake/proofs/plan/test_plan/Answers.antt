-- `test_plan` meets its contract.
use native.Mathlib.Omega.{arith}
use Rattle.intake.proofs.plan.Planning.{plan_8, plan_start, plan_body, plan_fine, plan_ends, refused_tested}
use Rattle.intake.proofs.plan.test_plan.Goals as goal

pub returns-then-counts_wrong : goal.returns-then-counts_wrong
returns-then-counts_wrong c = λ lens rs kn ok room. refused_tested (rw c.at.ensures (plan_8 kn ok _ (c.counts_wrong.ensures _ _ lens rs kn) c.if-counts_wrong.true))

pub returns-then-word_at-ne0 : goal.returns-then-word_at-ne0
returns-then-word_at-ne0 c = λ lens rs kn ok room.
    refused_tested (rw c.at-then-word_at-ne0.ensures
    (plan_start kn ok _ (c.counts_wrong.ensures _ _ lens rs kn) c.if-counts_wrong.false _ _ c.place_at-start.ensures.value c.word_at.ensures.value (omega arith) _ c.place_of.ensures))

pub returns-in-Some : goal.returns-in-Some
returns-in-Some c = λ lens rs kn ok room.
    refused_tested (rw c.at-in-Some.ensures
    (plan_body kn ok _ (c.counts_wrong.ensures _ _ lens rs kn) c.if-counts_wrong.false _ _ c.place_at-start.ensures.value c.word_at.ensures.value (omega arith) (λ k. omega (arith, c.type_inv.file k)) _ _ _
    c.count_of-sorts.ensures.value c.count_of-constructors.ensures.value c.count_of-rules.ensures.value c.args.ends.now _ room _ c.first_wrong_body-wrong.ensures.first _ c.in-Some.is _ c.place_of-in-Some.ensures))

pub returns-in-None : goal.returns-in-None
returns-in-None c = λ lens rs kn ok room. record {
  verdict = plan_fine kn ok _ (c.counts_wrong.ensures _ _ lens rs kn) c.if-counts_wrong.false _ _ c.place_at-start.ensures.value c.word_at.ensures.value (omega arith) (λ k. omega (arith, c.type_inv.file k)) _ _ _
      c.count_of-sorts.ensures.value c.count_of-constructors.ensures.value c.count_of-rules.ensures.value c.args.ends.now _ room _ c.first_wrong_body-wrong.ensures.first c.in-None.is;
  ends_are = λ e. plan_ends kn ok _ (c.counts_wrong.ensures _ _ lens rs kn) c.if-counts_wrong.false _ _ c.place_at-start.ensures.value c.word_at.ensures.value (omega arith) (λ k. omega (arith, c.type_inv.file k)) _ _ _
      c.count_of-sorts.ensures.value c.count_of-constructors.ensures.value c.count_of-rules.ensures.value c.args.ends.now _ room _ c.first_wrong_body-wrong.ensures.first c.in-None.is;
}

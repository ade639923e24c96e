-- The verdicts of the judge as the answers of the definitions. Section "Verdicts" of the scope.
use Rattle.demands.specs.Answers.{Answer, proved, unproved, refuted, refused}
use Rattle.plan_check.specs.declared.Verdict.{Verdict}
use Rattle.plan_check.specs.declared.Verdict.TheVariants.{Proved, Unproved, Refuted, Refused}

-- each verdict as one of the four lines, with the scope's numbers
unfoldable pub answer_as : Verdict → Answer
answer_as (Proved k t r) = proved k t r
answer_as (Unproved k t r) = unproved k t r
answer_as (Refuted n q c) = refuted n q c
answer_as (Refused n p) = refused n p

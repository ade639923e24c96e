-- The words of a verdict, and what a caller finds.
use Prim.Native.Nat.{ℕ}
use mathlib.Core.Path.{◌≡◌, sym, ap}
use mathlib.Core.List.{List, [], ◌∷◌}
use lib.ListN.{get_or}
use Rattle.plan_check.specs.Verdicts.{answer_as}
use Rattle.demands.specs.Demands.{Demand1, Demand2, Demand3}
use Rattle.plan_check.specs.declared.Verdict.{Verdict}
use Rattle.plan_check.specs.declared.Verdict.TheVariants.{Proved, Unproved, Refuted, Refused}
use Rattle.capi.specs.Exports.{words_of, Judges}

-- the words of each verdict
module _ (v : Verdict) (a b c : ℕ) where
  pub proved_words : v ≡ Proved a b c → 0 ∷ a ∷ b ∷ c ∷ [] ≡ words_of (answer_as v)
  unfolding words_of answer_as
  proved_words e = sym (ap (λ z. words_of (answer_as z)) e)

  pub unproved_words : v ≡ Unproved a b c → 1 ∷ a ∷ b ∷ c ∷ [] ≡ words_of (answer_as v)
  unfolding words_of answer_as
  unproved_words e = sym (ap (λ z. words_of (answer_as z)) e)

  pub refuted_words : v ≡ Refuted a b c → 2 ∷ a ∷ b ∷ c ∷ [] ≡ words_of (answer_as v)
  unfolding words_of answer_as
  refuted_words e = sym (ap (λ z. words_of (answer_as z)) e)

pub refused_words : (v : Verdict) (a b : ℕ) → v ≡ Refused a b → 3 ∷ a ∷ b ∷ 0 ∷ [] ≡ words_of (answer_as v)
unfolding words_of answer_as
refused_words v a b e = sym (ap (λ z. words_of (answer_as z)) e)

-- what a caller finds
pub exported : (file lent marks : List ℕ) (v : Verdict) → Demand1 file lent (answer_as v) marks × (Demand2 file lent (answer_as v) marks × Demand3 file (answer_as v)) → (out : List ℕ) → out ≡ words_of (answer_as v)
    → Judges file lent marks out (get_or out 0 0)
exported file lent marks v (one, (two, three)) out e =
    record {
      a = answer_as v;
      is_answer = one.is_answer;
      are_words = e;
      is_number = ap (λ z. get_or z 0 0) e;
      are_marks = one.are_marks;
      demand2 = two;
      demand3 = three;
    }

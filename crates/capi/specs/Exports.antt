-- A verdict as numbers, for callers in other languages.
use Rattle.std.specs.Prelude.{ℕ, ◌≡◌, List, [], ◌∷◌, length, get_or}
use Rattle.demands.specs.Answers.{Answer, proved, unproved, refuted, refused, answer, flags_after}
use Rattle.demands.specs.Demands.{Demand2, Demand3}

-- the number of an answer: 0 proved, 1 unproved, 2 refuted, 3 refused; then its values, 0 where there are fewer than three
unfoldable pub words_of : Answer → List ℕ
words_of (proved kept total rounds) = 0 ∷ kept ∷ total ∷ rounds ∷ []
words_of (unproved kept total rounds) = 1 ∷ kept ∷ total ∷ rounds ∷ []
words_of (refuted letters state constructor) = 2 ∷ letters ∷ state ∷ constructor ∷ []
words_of (refused number place) = 3 ∷ number ∷ place ∷ 0 ∷ []

-- what is left in `out` are the words of the answer to the file, the first of which is returned; the flags are those of
-- the definitions; and the answer meets the demands
pub record Judges (file lent marks out : List ℕ) (r : ℕ) : Type 0 where
  pub a : Answer
  pub is_answer : a ≡ (answer file (length lent)).answer
  pub are_words : out ≡ words_of a
  pub is_number : r ≡ get_or (words_of a) 0 0
  pub are_marks : marks ≡ flags_after file lent
  pub demand2 : Demand2 file lent a marks
  pub demand3 : Demand3 file a

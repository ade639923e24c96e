-- What our own crates promise each other; nothing here has to be believed.
-- The tests 4 to 7 of a record as one number: that of the first test met, or 0 where none is.
use Rattle.std.specs.Prelude.{ℕ, Bool, ◌||◌, List, length}
use Rattle.scheme.specs.Lists.{choose◌then◌else◌}
use Rattle.casefile.specs.Records.{Record}
use Rattle.casefile.specs.Kinds.{Kind, count}
use Rattle.casefile.specs.Refusals.{wrong_length, too_many, too_large, out_of_range, misplaced}

-- the number of the first of four tests that is met
abbrev pub first_of : Bool → Bool → Bool → Bool → ℕ
first_of wrong over range order = choose wrong then 4 else (choose over then 5 else (choose range then 6 else (choose order then 7 else 0)))

-- the number for a payload of kind k after the records rs
unfoldable pub code_for : List Record → List ℕ → Kind → ℕ
code_for rs p k = first_of (wrong_length k (length p)) (too_many k (count k rs) || too_large rs p k) (out_of_range rs p k) (misplaced rs p k)

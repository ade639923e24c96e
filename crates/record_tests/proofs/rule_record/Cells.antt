-- A walk over a body, node by node: which is out of range.
use Prim.Native.Nat.{ℕ, ◌+◌, ◌*◌, ◌<◌}
use native.Mathlib.Omega.{arith}
use mathlib.Core.Path.{◌≡◌, refl, sym, ap, ◌∙◌}
use mathlib.Core.List.{List, [], ◌∷◌, ◌++◌}
use lib.ListN.{length, get_or}
use Rattle.casefile.specs.Fields.{field, byte, word}
use Rattle.casefile.specs.Tables.{Cell, cells_of}
use Rattle.record_tests.specs.rule_record.Cells.{cell_from}

-- a node, and what is left behind it
pub short_cells : (l : List ℕ) → length l < 4 → cells_of l ≡ []
unfolding cells_of
short_cells [] h = refl
short_cells (a ∷ []) h = refl
short_cells (a ∷ b ∷ []) h = refl
short_cells (a ∷ b ∷ c ∷ []) h = refl
short_cells (a ∷ b ∷ c ∷ d ∷ l) h = absurd (omega arith)

cell_is : (p : List ℕ) (i : ℕ) → i + 2 + 1 ≡ i + 3 → i + 1 + 1 ≡ i + 2
    → record { tag = get_or p i 0; number = word (get_or p (i + 1) 0 ∷ get_or p (i + 2) 0 ∷ []) 0; count = get_or p (i + 2 + 1) 0 } ≡ cell_from p i
unfolding field
cell_is p i e f = λ j. record { tag = tag_is j; number = number_is j; count = count_is j }
  where
    tag_is : get_or p i 0 ≡ byte p i
    tag_is = omega arith

    number_is : word (get_or p (i + 1) 0 ∷ get_or p (i + 2) 0 ∷ []) 0 ≡ word p (i + 1)
    number_is = ap (λ k. get_or p (i + 1) 0 + 256 * (get_or p k 0 + 256 * 0)) (sym f)

    count_is : get_or p (i + 2 + 1) 0 ≡ byte p (i + 3)
    count_is = ap (λ k. get_or p k 0) e ∙ (omega arith)

pub cells_more : (x l : List ℕ) → length x ≡ 4 → cells_of (x ++ l) ≡ cell_from x 0 ∷ cells_of l
unfolding cells_of field
cells_more [] l h = absurd (omega arith)
cells_more (a ∷ []) l h = absurd (omega arith)
cells_more (a ∷ b ∷ []) l h = absurd (omega arith)
cells_more (a ∷ b ∷ c ∷ []) l h = absurd (omega arith)
cells_more (a ∷ b ∷ c ∷ d ∷ []) l h = ap (λ (k : Cell). k ∷ cells_of l) (cell_is (a ∷ b ∷ c ∷ d ∷ []) 0 refl refl)
cells_more (a ∷ b ∷ c ∷ d ∷ e ∷ x) l h = absurd (omega arith)

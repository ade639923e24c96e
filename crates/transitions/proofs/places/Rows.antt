-- The row of a state and a constructor, read from the file at the place that the index has.
use Prim.Native.Nat.{ℕ}
use mathlib.Core.Path.{◌≡◌}
use mathlib.Core.List.{List}
use borrow.Author.Tests.{eq-eqb, ne_eqb}
use lib.Dec.{eqb}
use Rattle.scheme.specs.Lists.{choose◌then◌else◌}
use Rattle.transitions.specs.table.Moves.{four_at}
use Rattle.transitions.proofs.table.Filling.{no_row}
use Rattle.transitions.specs.places.RowPlaces.{place_in}

-- the four targets of a transition whose payload lies at a place; 255 where there is none
unfoldable pub row_from : List ℕ → ℕ → List ℕ
row_from file place = choose eqb place 0 then no_row else four_at file place

-- the row of a state and a constructor
abbrev pub row_in : List ℕ → List ℕ → ℕ → ℕ → List ℕ
row_in file index q c = row_from file (place_in index q c)

-- a place of 0, and another
pub row_none : (file : List ℕ) (place : ℕ) → place ≡ 0 → no_row ≡ row_from file place
unfolding row_from
row_none file place e = rw (eq-eqb place 0 e)

pub row_some : (file : List ℕ) (place : ℕ) → (place ≡ 0 → ⊥) → four_at file place ≡ row_from file place
unfolding row_from
row_some file place ne = rw (ne_eqb place 0 ne)

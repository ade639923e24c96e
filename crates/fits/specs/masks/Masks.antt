-- What our own crates promise each other; nothing here has to be believed.
-- Sets of listed sorts as words, and the tables of such words.
use Rattle.std.specs.Prelude.{ℕ, zero, suc, ◌+◌, ◌/◌, ◌%◌, ◌<◌, ◌≤◌, ◌≡◌, Bool, false, List, eqb, get_or, replicate}
use Rattle.casefile.specs.Fields.{word}
use Rattle.index.specs.layout.Layout.{max_sorts, all_sorts}
use Rattle.fits.specs.declared.masks.Row.{Row}

-- bit i of a number is set
unfoldable pub has : ℕ → ℕ → Bool
has m zero = eqb (m % 2) 1
has m (suc i) = has (m / 2) i

-- a word has a sort, by its number; none has sort 0
unfoldable pub has_sort : ℕ → ℕ → Bool
has_sort m zero = false
has_sort m (suc i) = has m i

-- the row of type t; one without sorts past the end of the table
abbrev pub row_in : List Row → ℕ → Row
row_in fit t = get_or fit t (record { sorts = 0; results = 0; arguments = 0 })

-- a table with no sort in its entries
abbrev pub Empty : List ℕ → Type 0
Empty masks = masks ≡ replicate all_sorts 0

-- entry n of a table has those of a given number of listed sorts whose record has number n at byte `at`
abbrev pub SortsWith : List ℕ → List ℕ → ℕ → ℕ → List ℕ → Type 0
SortsWith file index sorts at masks = (n i : ℕ) → n ≤ max_sorts → i < sorts → has (get_or masks n 0) i ≡ eqb (word file (get_or index i 0 + at)) n

-- r is the union of the entries of a table for the sorts that a word has: of a sort that entry n alone has, r says whether the word
-- has sort n
abbrev pub Unites : List ℕ → ℕ → ℕ → Type 0
Unites masks m r = (i n : ℕ) → ((k : ℕ) → k ≤ max_sorts → has (get_or masks k 0) i ≡ eqb n k) → has r i ≡ has_sort m n

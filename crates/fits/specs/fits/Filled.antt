-- What our own crates promise each other; nothing here has to be believed.
-- The table of fits, row by row. Refusal 11 of the scope.
use Rattle.std.specs.Prelude.{ℕ, suc, ◌+◌, ◌<◌, ◌≤◌, ◌≡◌, Bool, ◌&&◌, List, [], length, get_or, drop}
use Rattle.scheme.specs.Lists.{all}
use Rattle.scheme.specs.Sorts.{o}
use Rattle.scheme.specs.Types.{state, fits}
use Rattle.casefile.specs.Fields.{word}
use Rattle.casefile.specs.Records.{Record}
use Rattle.casefile.specs.Promises.{Bytes, Passed}
use Rattle.casefile.specs.Kinds.{sort, type, payloads}
use Rattle.casefile.specs.Tables.{words, sorts_of, types_of}
use Rattle.index.specs.layout.Layout.{max_sorts, max_types}
use Rattle.index.specs.entries.Index.{Indexed}
use Rattle.fits.specs.masks.Masks.{has, row_in, SortsWith}
use Rattle.fits.specs.declared.masks.Row.{Row}

-- type number t fits sort number s
abbrev pub fits_at : List Record → ℕ → ℕ → Bool
fits_at rs t s = fits (get_or (types_of rs) t (state 0)) (get_or (sorts_of rs) s o)

-- the numbers of the sorts that sort number i + 1 goes from and to
abbrev pub from_of : List Record → ℕ → ℕ
from_of rs i = word (get_or (payloads sort rs) i []) 0

abbrev pub to_of : List Record → ℕ → ℕ
to_of rs i = word (get_or (payloads sort rs) i []) 2

-- a row says of type t whether it fits sort i + 1, its result, and its argument
pub record SaysFits (rs : List Record) (t i : ℕ) (row : Row) : Type 0 where
  pub sort_right : has row.sorts i ≡ fits_at rs t (suc i)
  pub result_right : has row.results i ≡ fits_at rs t (to_of rs i)
  pub argument_right : has row.arguments i ≡ fits_at rs t (from_of rs i)

-- the table has the rows of the first n types, for each listed sort
abbrev pub Fitted : List Row → ℕ → ℕ → List Record → Type 0
Fitted fit n sorts rs = (t i : ℕ) → t < n → i < sorts → SaysFits rs t i (row_in fit t)

-- the records passed their tests, and the index has their types and their sorts, no more than the table has room for
pub record TypesAndSorts (file index : List ℕ) (types sorts : ℕ) (rs : List Record) : Type 0 where
  pub passed : Passed rs
  pub type_bytes : (i : ℕ) → Bytes (get_or (payloads type rs) i [])
  pub sort_bytes : (i : ℕ) → Bytes (get_or (payloads sort rs) i [])
  pub types_there : Indexed file index type types rs
  pub sorts_there : Indexed file index sort sorts rs
  pub few_types_law : types ≤ max_types
  pub few_sorts : sorts ≤ max_sorts

-- p is a payload, the len bytes at place
pub record PayloadThere (file : List ℕ) (place len : ℕ) (p : List ℕ) : Type 0 where
  pub long : length p ≡ len
  pub word_there : (i : ℕ) → i + 2 ≤ len → word p i ≡ word file (place + i)

-- r has the sorts whose result an arrow's result fits, and whose argument each of its members fits, by the rows of a table
abbrev pub FitsArrow : List ℕ → ℕ → ℕ → List Row → ℕ → Type 0
FitsArrow file place len fit r =
    (p : List ℕ) → PayloadThere file place len p → (i : ℕ)
    → has r i ≡ (has (row_in fit (word file place)).results i && all (λ m. has (row_in fit m).arguments i) (words (drop 2 p)))

module _ (file index : List ℕ) where
  -- a row is that of type t, where the table has the rows before it and two tables have the sorts by the numbers of the
  -- sorts that they go from and to
  abbrev pub ReadsRow : List ℕ → List ℕ → ℕ → List Row → Row → Type 0
  ReadsRow froms tos t fit row =
      (types sorts : ℕ) (rs : List Record) → TypesAndSorts file index types sorts rs → SortsWith file index sorts 0 froms → SortsWith file index sorts 2 tos
      → t < types → Fitted fit t sorts rs → (i : ℕ) → i < sorts → SaysFits rs t i row

  -- the table of all types, where it has room for them
  pub record Fills (types sorts : ℕ) (old fit : List Row) : Type 0 where
    pub filled : (rs : List Record) → TypesAndSorts file index types sorts rs → types ≤ length old → Fitted fit types sorts rs
    pub short : length old < types → fit ≡ old

-- What our own crates promise each other; nothing here has to be believed.
-- A record that the walk takes: its code, and the tables with it.
use Rattle.std.specs.Prelude.{ℕ, ◌+◌, ◌≡◌, List, get_or}
use Rattle.casefile.specs.Records.{Record}
use Rattle.casefile.specs.Kinds.{Kind, number, kind_of}
use Rattle.casefile.specs.Promises.{Passed}
use Rattle.index.specs.entries.Index.{base}
use Rattle.index.specs.enter.Entering.{stored, lens_after, chains_after}
use Rattle.index.specs.entries.Known.{Known}
use Rattle.walk.specs.kinds.Codes.{code_as}

-- the index and the counts with one entry more of a kind, behind the others
pub record Adds (index counts : List ℕ) (k : Kind) (start : ℕ) (index' counts' : List ℕ) : Type 0 where
  pub index_is : index' ≡ stored index (base k + get_or counts (number k) 0) start
  pub counts_are : counts' ≡ stored counts (number k) (get_or counts (number k) 0 + 1)

-- a record of a kind with the payload p, which begins at start, is entered behind the others of its kind
pub record Entered (index lens counts : List ℕ) (kind start : ℕ) (p index' lens' counts' : List ℕ) : Type 0 where
  pub index_is : (k : Kind) → kind ≡ number k → index' ≡ chains_after (stored index (base k + get_or counts kind 0) start) kind (get_or counts kind 0) p
  pub lens_are : lens' ≡ lens_after lens kind (get_or counts kind 0) p
  pub counts_are : counts' ≡ stored counts kind (get_or counts kind 0 + 1)

-- r is the code of the record; where that is 0, it is entered, and else the tables stay
pub record Taken (file index lens counts : List ℕ) (kind start : ℕ) (p index' lens' counts' : List ℕ) (r : ℕ) : Type 0 where
  pub code : (rs : List Record) → Known file index lens counts rs → Passed rs → r ≡ code_as rs p (kind_of kind)
  pub entered : r ≡ 0 → Entered index lens counts kind start p index' lens' counts'
  pub stay : (r ≡ 0 → ⊥) → (index' ≡ index) × (lens' ≡ lens) × (counts' ≡ counts)

-- What our own crates promise each other; nothing here has to be believed.
-- The walk over a file, and how it ends.
use Rattle.std.specs.Prelude.{ℕ, ◌-◌, ◌<◌, ◌≤◌, ◌≡◌, List, [], ◌++◌, length, Some, Result, Ok, Err}
use Rattle.casefile.specs.Records
use Rattle.casefile.specs.Records.{records_of, listed}
use Rattle.records.specs.cursor.Reading.{read_at}
use Rattle.records.specs.declared.cursor.Record.{Record}
use Rattle.records.specs.declared.refusal.Refusal.{Refusal}
use Rattle.records.specs.refusal.Numbers.{refusal_as}
use Rattle.casefile.specs.Kinds.{Kind, payloads}
use Rattle.casefile.specs.Refusals.{last_kind, refuse_whole}
use Rattle.casefile.specs.Cases.{refused_case, unless_refused, accepted_case, case_from}
use Rattle.casefile.specs.Promises.{records_from, Passed}
use Rattle.index.specs.layout.Layout.{max_file, places_at, kinds, all_sorts}
use Rattle.index.specs.entries.Known.{Known}

-- the walk is under way: the tables hold the records before `at`, whose last kind is `last`, and what is left of the file decides
pub record Walking (file index lens counts : List ℕ) (at last : ℕ) : Type 0 where
  pub rs : List Records.Record
  pub known : Known file index lens counts rs
  pub passed : Passed rs
  pub lastly : last_kind rs ≡ last
  pub inside : at ≤ length file
  pub same : (flags : ℕ) → case_from flags (records_from file at) rs ≡ case_from flags (records_of file) []
  pub all : rs ++ listed (records_from file at) ≡ listed (records_of file)
  pub index_long : places_at ≤ length index
  pub lens_long : length lens ≡ all_sorts
  pub counts_long : length counts ≡ kinds

-- every record passed: they are all in the arrays, and 8 to 12 are left
pub record AllRead (file index lens counts : List ℕ) : Type 0 where
  pub passed : Passed (listed (records_of file))
  pub known : Known file index lens counts (listed (records_of file))
  pub left : (flags : ℕ) → case_from flags (records_of file) [] ≡ unless_refused (refuse_whole (listed (records_of file)) flags) (accepted_case (listed (records_of file)) (payloads Kind.path (listed (records_of file))))

-- what the walk answers: a refusal by 2 to 7, or that every record passed
unfoldable pub WalkEnds : List ℕ → List ℕ → List ℕ → List ℕ → Result Unit Refusal → Type 0
WalkEnds file index lens counts (Err r) = (flags : ℕ) → case_from flags (records_of file) [] ≡ refused_case (refusal_as r)
WalkEnds file index lens counts (Ok x) = AllRead file index lens counts

-- the walk goes on behind a record: the place moves, and the tables hold one record more
pub record GoesOn (file index lens counts index' lens' counts' : List ℕ) (at last next kind : ℕ) : Type 0 where
  pub less : length file - next < length file - at
  pub walking : length file ≤ max_file → Walking file index lens counts at last → Walking file index' lens' counts' next kind

-- how one turn ends at a place, with a record that was read there: the end of the walk, or that it goes on
abbrev pub TurnEnds : List ℕ → List ℕ → List ℕ → List ℕ → List ℕ → List ℕ → List ℕ → ℕ → ℕ → Record → Result Unit Refusal → Type 0
TurnEnds file index lens counts index' lens' counts' at last got (Err r) = length file ≤ max_file → Walking file index lens counts at last → WalkEnds file index' lens' counts' (Err r)
TurnEnds file index lens counts index' lens' counts' at last got (Ok x) = GoesOn file index lens counts index' lens' counts' at last got.next.at got.kind

-- the promise of a turn, at whatever place its record was read
pub record TurnsTo (file : List ℕ) (got : Record) (last : ℕ) (index lens counts index' lens' counts' : List ℕ) (r : Result Unit Refusal) : Type 0 where
  pub comes_to : (at : ℕ) → Ok (Some got) ≡ read_at file at → TurnEnds file index lens counts index' lens' counts' at last got r

-- the promise of a pass: all turns from the start of a file on
abbrev pub PassesTo : List ℕ → List ℕ → List ℕ → List ℕ → List ℕ → List ℕ → List ℕ → Result Unit Refusal → Type 0
PassesTo file index lens counts index' lens' counts' r = length file ≤ max_file → Walking file index lens counts 0 0 → WalkEnds file index' lens' counts' r

-- the promise of the walk, for tables of the right sizes
abbrev pub WalksTo : List ℕ → List ℕ → List ℕ → List ℕ → List ℕ → List ℕ → List ℕ → Result Unit Refusal → Type 0
WalksTo file index lens counts index' lens' counts' r = places_at ≤ length index → length lens ≡ all_sorts → length counts ≡ kinds → length file ≤ max_file → WalkEnds file index' lens' counts' r

-- What our own crates promise each other; nothing here has to be believed.
-- What the intake of a file answers: a refusal by 1 to 12, a binding case or a path case, with the tables of its records.
use Rattle.std.specs.Prelude.{ℕ, ◌*◌, ◌<◌, ◌≤◌, ◌≡◌, Result, Ok, Err, List, [], length, get_or}
use Rattle.casefile.specs.Records.{records_of, listed}
use Rattle.casefile.specs.Kinds.{Kind, payloads, count}
use Rattle.casefile.specs.Cases.{refused_case, binding_case, path_case, case_of}
use Rattle.casefile.specs.Cases
use Rattle.casefile.specs.Promises.{Passed}
use Rattle.index.specs.layout.Layout.{max_file, node_bytes}
use Rattle.index.specs.entries.Known.{Known}
use Rattle.intake.specs.plan.PlanTests.{EndsAre}
use Rattle.intake.specs.declared.evidence.Case.{Case}
use Rattle.intake.specs.declared.evidence.Case.TheVariants.{Bindings, Path}
use Rattle.records.specs.declared.refusal.Refusal.{Refusal}
use Rattle.records.specs.refusal.Numbers.{refusal_as}

-- each answer as a case of the definitions: the scope's number and place, or the records of the file
unfoldable pub case_as : List ℕ → Result Case Refusal → Cases.Case
case_as file (Err r) = refused_case (refusal_as r)
case_as file (Ok Bindings) = binding_case (listed (records_of file))
case_as file (Ok Path) = path_case (listed (records_of file)) (get_or (payloads Kind.path (listed (records_of file))) 0 [])

-- the tables hold the records of the file, which all passed, and the ends of the subterms of its bodies
pub record Tables (file index lens counts ends : List ℕ) : Type 0 where
  pub passed : Passed (listed (records_of file))
  pub known : Known file index lens counts (listed (records_of file))
  pub ends_are : EndsAre (listed (records_of file)) ends

-- a file that is not refused leaves its tables; a path case has a path
unfoldable pub Leaves : List ℕ → List ℕ → List ℕ → List ℕ → List ℕ → Result Case Refusal → Type 0
Leaves file index lens counts ends (Err r) = Unit {0}
Leaves file index lens counts ends (Ok Bindings) = Tables file index lens counts ends
Leaves file index lens counts ends (Ok Path) = Tables file index lens counts ends × (0 < count Kind.path (listed (records_of file)))

-- a table of ends has room for the nodes that a file of a given length may have, if it is no longer than all files may be
pub record RoomFor (size ends : ℕ) : Type 0 where
  pub nodes : size ≤ max_file → (n : ℕ) → node_bytes * n ≤ size → n ≤ ends

-- the case of the definitions, and its tables
pub record CaseFound (file : List ℕ) (flags : ℕ) (index lens counts ends : List ℕ) (r : Result Case Refusal) : Type 0 where
  pub is_case : case_as file r ≡ case_of file flags
  pub tables : Leaves file index lens counts ends r

-- the promise of the intake, where a table of ends of a given length has room
pub record Examined (file : List ℕ) (flags ends_long : ℕ) (index lens counts ends : List ℕ) (r : Result Case Refusal) : Type 0 where
  pub found : RoomFor (length file) ends_long → CaseFound file flags index lens counts ends r

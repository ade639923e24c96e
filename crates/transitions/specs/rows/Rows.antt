-- What our own crates promise each other; nothing here has to be believed.
-- A row of the transition table, and the argument count of a constructor.
use Rattle.std.specs.Prelude.{ℕ, ◌≤◌, ◌≡◌, List, length, get_or, take, Option, None, Some, IfSome}
use Rattle.std.proofs.Math.Option
use Rattle.std.proofs.Math.Option.{none, some}
use Rattle.casefile.specs.Records.{Record}
use Rattle.casefile.specs.Kinds.{Kind}
use Rattle.casefile.specs.Tables.{arities_of, transitions_of, targets_at}
use Rattle.casefile.specs.Promises.{Passed}
use Rattle.index.specs.layout.Layout.{max_constructors}
use Rattle.index.specs.entries.Index.{Indexed}
use Rattle.transitions.specs.table.Moves.{TableFor}

-- a row, where there is a transition, as the targets of a constructor of a given number of arguments
unfoldable pub targets_of : ℕ → Option (List ℕ) → Option.Option (List ℕ)
targets_of arity None = none
targets_of arity (Some row) = some (take arity row)

-- r is the row of a table for a state and a constructor, of a given number of constructors: the targets of the definitions
pub record IsRow (table : List (List (List ℕ))) (constructors q c : ℕ) (r : Option (List ℕ)) : Type 0 where
  pub targets : (rs : List Record) → Passed rs → TableFor rs table → length (arities_of rs) ≡ constructors → constructors ≤ max_constructors → targets_of (get_or (arities_of rs) c 0) r ≡ targets_at (transitions_of rs) q c
  pub four : (rs : List Record) → TableFor rs table → IfSome r (λ row. length row ≡ 4)

-- r is the argument count of a constructor, 0 where there is none
abbrev pub IsArity : List ℕ → List ℕ → ℕ → ℕ → ℕ → Type 0
IsArity file index constructors c r = (rs : List Record) → Passed rs → Indexed file index Kind.constructor constructors rs → constructors ≤ max_constructors → r ≡ get_or (arities_of rs) c 0

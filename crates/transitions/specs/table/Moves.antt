-- What our own crates promise each other; nothing here has to be believed.
-- The transition table: state by constructor, four targets each; 255 where there is no transition.
use Rattle.std.specs.Prelude.{ℕ, ◌+◌, ◌<◌, ◌≤◌, ◌≡◌, ◌&&◌, List, [], ◌∷◌, eqb, length, get_or, take, drop}
use Rattle.std.proofs.Math.Option.{Option, none, some}
use Rattle.scheme.specs.Lists.{choose◌then◌else◌}
use Rattle.casefile.specs.Fields.{byte}
use Rattle.casefile.specs.Records.{Record}
use Rattle.casefile.specs.Kinds.{Kind, payloads}
use Rattle.casefile.specs.Tables.{arities_of, transitions_of, targets_at}
use Rattle.casefile.specs.Promises.{Passed}
use Rattle.index.specs.layout.Layout.{max_constructors, max_states, max_transitions}
use Rattle.index.specs.entries.Index.{Indexed}

-- the row of a state and a constructor
abbrev pub row_at : List (List (List ℕ)) → ℕ → ℕ → List ℕ
row_at t q c = get_or (get_or t q []) c []

-- the four targets of a transition at a place
abbrev pub four_at : List ℕ → ℕ → List ℕ
four_at s at = byte s (at + 2) ∷ byte s (at + 3) ∷ byte s (at + 4) ∷ byte s (at + 5) ∷ []

-- the row of the first transition for a state and a constructor
unfoldable pub row_for : List (List ℕ) → ℕ → ℕ → List ℕ
row_for [] q c = 255 ∷ 255 ∷ 255 ∷ 255 ∷ []
row_for (p ∷ ps) q c = let others = row_for ps q c in choose eqb (byte p 0) q && eqb (byte p 1) c then four_at p 0 else others

-- a row as the targets of a constructor of a given number of arguments
unfoldable pub targets_in : ℕ → List ℕ → Option (List ℕ)
targets_in arity row = choose eqb (get_or row 0 0) 255 then none else some (take arity row)

-- a table holds the targets of the definitions
pub record TableFor (rs : List Record) (t : List (List (List ℕ))) : Type 0 where
  pub targets : (q c : ℕ) → q < max_states → c < max_constructors → targets_in (get_or (arities_of rs) c 0) (row_at t q c) ≡ targets_at (transitions_of rs) q c
  pub four : (q c : ℕ) → q < max_states → c < max_constructors → length (row_at t q c) ≡ 4

-- the promise: the table is that of the file
abbrev pub Holds : List ℕ → List ℕ → ℕ → List (List (List ℕ)) → Type 0
Holds file index n t = (rs : List Record) → Passed rs → Indexed file index Kind.transition n rs → n ≤ max_transitions → TableFor rs t

-- a table of 16 times 32 rows
pub record Shaped (t : List (List (List ℕ))) : Type 0 where
  pub states : length t ≡ max_states
  pub constructors : (q : ℕ) → q < max_states → length (get_or t q []) ≡ max_constructors

-- while the table is filled: the transitions from number k on are in it
pub record Sofar (file index : List ℕ) (n : ℕ) (t : List (List (List ℕ))) (k : ℕ) : Type 0 where
  pub count : k ≤ n
  pub few : n ≤ max_transitions
  pub shaped : Shaped t
  pub rows : (rs : List Record) → Passed rs → Indexed file index Kind.transition n rs → (q c : ℕ) → q < max_states → c < max_constructors → row_at t q c ≡ row_for (drop k (payloads Kind.transition rs)) q c

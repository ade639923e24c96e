-- What our own crates promise each other; nothing here has to be believed.
-- The transitions of a file by state and constructor: where the payload of each lies in the file, 0 where there is none.
use Rattle.std.specs.Prelude.{ℕ, ◌+◌, ◌*◌, ◌<◌, ◌≤◌, ◌≡◌, List, eqb, length, get_or, take}
use Rattle.std.proofs.Math.Option.{Option, none, some}
use Rattle.scheme.specs.Lists.{choose◌then◌else◌}
use Rattle.casefile.specs.Records.{Record}
use Rattle.casefile.specs.Kinds.{Kind}
use Rattle.casefile.specs.Tables.{arities_of, transitions_of, targets_at}
use Rattle.casefile.specs.Promises.{Passed}
use Rattle.index.specs.layout.Layout.{max_constructors, max_states, max_transitions, places_at, index_size}
use Rattle.index.specs.entries.Index.{Indexed}
use Rattle.transitions.specs.table.Moves.{four_at}

-- where these places begin in the index, 32 for each of the 16 states
abbrev pub row_base : ℕ
row_base = places_at

-- the place of the transition of a state and a constructor
abbrev pub place_in : List ℕ → ℕ → ℕ → ℕ
place_in index q c = get_or index (row_base + (q * max_constructors + c)) 0

-- the targets of a transition of a given number of arguments whose payload lies at a place; none at place 0
unfoldable pub targets_from : List ℕ → ℕ → ℕ → Option (List ℕ)
targets_from file arity place = choose eqb place 0 then none else some (take arity (four_at file place))

-- the index has the targets of the definitions
pub record RowsFor (file index : List ℕ) (rs : List Record) : Type 0 where
  pub targets : (q c : ℕ) → q < max_states → c < max_constructors → targets_from file (get_or (arities_of rs) c 0) (place_in index q c) ≡ targets_at (transitions_of rs) q c

-- a state and a constructor have no transition; so it is past the states and the constructors
abbrev pub NoPlaceIn : List ℕ → ℕ → ℕ → Type 0
NoPlaceIn index q c = q < max_states → c < max_constructors → place_in index q c ≡ 0

-- r is the place of the transition of a state and a constructor, which is no 0
pub record IsPlaceIn (index : List ℕ) (q c r : ℕ) : Type 0 where
  pub place : r ≡ place_in index q c
  pub there : r ≡ 0 → ⊥
  pub inside : (q < max_states) × (c < max_constructors)
  pub bound : r < 65536

-- the index after the places of n transitions were entered: all up to them is as it was
pub record FillsRows (file before : List ℕ) (n : ℕ) (after : List ℕ) : Type 0 where
  pub long : length after ≡ length before
  pub stays : (i : ℕ) → i < row_base → get_or after i 0 ≡ get_or before i 0
  pub rows : (rs : List Record) → Passed rs → Indexed file before Kind.transition n rs → n ≤ max_transitions → index_size ≤ length before → RowsFor file after rs

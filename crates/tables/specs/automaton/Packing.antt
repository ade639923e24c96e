-- What our own crates promise each other; nothing here has to be believed.
-- The automaton in the flat table, by where each transition lies in the file.
use Rattle.std.specs.Prelude.{ℕ, ◌+◌, ◌*◌, ◌%◌, ◌<◌, ◌≤◌, ◌≡◌, List, length, get_or}
use Rattle.casefile.specs.Fields.{byte}
use Rattle.casefile.specs.Records.{Record}
use Rattle.casefile.specs.Kinds.{Kind}
use Rattle.casefile.specs.Tables.{arities_of}
use Rattle.casefile.specs.Promises.{Passed}
use Rattle.index.specs.layout.Layout.{max_states, max_constructors, targets_base, groups_at}
use Rattle.index.specs.entries.Index.{Indexed}
use Rattle.transitions.specs.places.RowPlaces.{place_in}
use Rattle.marks.specs.Marks.{bit_of}
use Rattle.tables.specs.Frames.{Within}
use Rattle.tables.specs.reading.Cells.{targets_of_spec, present_of_spec, arity_of_spec}

-- the targets of the transition at a place, four bits each
unfoldable pub packed_at : List ℕ → ℕ → ℕ
packed_at file place = byte file (place + 2) % 16 + 16 * (byte file (place + 3) % 16) + 256 * (byte file (place + 4) % 16) + 4096 * (byte file (place + 5) % 16)

-- r has as bits the states at which constructor c has a transition, where there are more constructors than c
pub record Presents (index : List ℕ) (constructors c r : ℕ) : Type 0 where
  pub small : r < 65536
  pub in_set : c < constructors → (q : ℕ) → q < max_states → (place_in index q c ≡ 0 → ⊥) → bit_of q r ≡ 1
  pub only : (q : ℕ) → bit_of q r ≡ 1 → place_in index q c ≡ 0 → ⊥

-- the targets of a constructor at each state that is present and has a transition
pub record FillsTargets (file index : List ℕ) (c present : ℕ) (before after : List ℕ) : Type 0 where
  pub within : Within (targets_base + c * max_states) (targets_base + c * max_states + max_states) before after
  pub targets : groups_at ≤ length before → (q : ℕ) → q < max_states → bit_of q present ≡ 1 → (place_in index q c ≡ 0 → ⊥) → targets_of_spec after c q ≡ packed_at file (place_in index q c)

-- what the table has of one constructor
pub record ConstructorSays (file index : List ℕ) (constructors c : ℕ) (t : List ℕ) : Type 0 where
  pub present : Presents index constructors c (present_of_spec t c)
  pub arity : (rs : List Record) → Passed rs → Indexed file index Kind.constructor constructors rs → constructors ≤ max_constructors → arity_of_spec t c ≡ get_or (arities_of rs) c 0
  pub targets : (q : ℕ) → q < max_states → bit_of q (present_of_spec t c) ≡ 1 → targets_of_spec t c q ≡ packed_at file (place_in index q c)

pub record FillsAutomaton (file index : List ℕ) (constructors : ℕ) (before after : List ℕ) : Type 0 where
  pub within : Within targets_base groups_at before after
  pub says : groups_at ≤ length before → (c : ℕ) → c < max_constructors → ConstructorSays file index constructors c after

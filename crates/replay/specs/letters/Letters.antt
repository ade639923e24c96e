-- What our own crates promise each other; nothing here has to be believed.
-- One letter of a path, on a term held as its head and a frame of its arguments. Section "Reduction and replay" of the scope.
use Rattle.std.specs.Prelude.{ℕ, suc, ◌+◌, ◌*◌, ◌<◌, ◌≤◌, ◌≡◌, ◌⊎◌, false, List, length, get_or, Option as Maybe, None, Some, IfSome, Result, Ok, Err}
use Rattle.std.proofs.Math.Option.{Option, none, some}
use Rattle.scheme.specs.Sorts.{o}
use Rattle.scheme.specs.Sorting.{sort_of}
use Rattle.scheme.specs.Terms.{Head, Term, node, Terms, countᵗ, nodes}
use Rattle.scheme.specs.Replay
use Rattle.scheme.specs.Replay.{exceeds}
use Rattle.casefile.specs.Records.{Record}
use Rattle.casefile.specs.Kinds.{Kind}
use Rattle.casefile.specs.Tables.{plan_of, automaton_of}
use Rattle.casefile.specs.Refusals.{refuse_whole}
use Rattle.casefile.specs.Promises.{Passed}
use Rattle.casefile.specs.Sorted.{closed_sorts}
use Rattle.index.specs.layout.Layout.{max_constructors, max_nonterminals, max_term, block_units}
use Rattle.index.specs.entries.Index.{Indexed}
use Rattle.index.specs.Wholes.{Bodies}
use Rattle.transitions.specs.table.Moves.{TableFor}
use Rattle.transitions.specs.rows.Rows.{targets_of}
use Rattle.closures.specs.heads.Heads.{head_as}
use Rattle.closures.specs.closures.Closures.{Frame}
use Rattle.replay.specs.declared.letters.Held.{Held}
use Rattle.records.specs.declared.refusal.Fault.{Fault}
use Rattle.records.specs.declared.refusal.Fault.TheVariants.{Lost, TooLarge}

-- what a file has that a path is replayed on
pub record Replaying (file index : List ℕ) (rules constructors : ℕ) (table : List (List (List ℕ))) (rs : List Record) : Type 0 where
  pub passed : Passed rs
  pub flags : ℕ
  pub whole : refuse_whole rs flags ≡ none
  pub bodies : Bodies file index rules rs
  pub few_rules : rules ≤ max_nonterminals
  pub constructors_there : Indexed file index Kind.constructor constructors rs
  pub few_constructors : constructors ≤ max_constructors
  pub table_is : TableFor rs table

-- a term is held, at a state: its head, and its arguments in a block below `top`
pub record Holding (file cells : List ℕ) (top : ℕ) (held : Held) (t : Term) (q : ℕ) : Type 0 where
  pub head : Head
  pub arguments : Terms
  pub is : t ≡ node head arguments
  pub head_is : head_as held.head ≡ head
  pub frame : Frame file cells held.frame.block held.frame.count arguments
  pub lower : held.frame.block < top
  pub size : nodes t ≤ max_term
  pub state_is : held.state ≡ q

-- what a letter leads to, the next term's arguments being in block `top`: nowhere, to a term that is too large, or to the next term
unfoldable pub LeadsTo : List ℕ → List ℕ → ℕ → ℕ → Option Replay.At → Result Held Fault → Type 0
LeadsTo file cells top letter a (Err fault) = ((fault ≡ Lost) × (a ≡ none)) ⊎ ((fault ≡ TooLarge) × (letter ≡ 0) × (b : Replay.At) × (a ≡ some b) × (max_term < nodes b.term))
LeadsTo file cells top letter a (Ok next) = (b : Replay.At) × (a ≡ some b) × (exceeds max_term letter b.term ≡ false) × Holding file cells (top + 1) next b.term b.state

-- a sorted term is held, and there is room for the next term's arguments
pub record Ready (file cells : List ℕ) (rs : List Record) (held : Held) (top : ℕ) (t : Term) (q : ℕ) : Type 0 where
  pub few : top < block_units
  pub room : top * 8 + 8 ≤ length cells
  pub sorted : sort_of (closed_sorts rs) t ≡ some o
  pub holding : Holding file cells top held t q

-- letter 0
pub record Unfolds (file index : List ℕ) (rules : ℕ) (cells cells' : List ℕ) (held : Held) (top : ℕ) (r : Result Held Fault) : Type 0 where
  pub long : length cells' ≡ length cells
  pub leads : (constructors : ℕ) (table : List (List (List ℕ))) (rs : List Record) → Replaying file index rules constructors table rs → (t : Term) (q : ℕ) → Ready file cells rs held top t q
      → LeadsTo file cells' top 0 (Replay.follow (automaton_of rs) (plan_of rs) 0 t q) r

-- r is the target for argument i; none where the letter leads nowhere
pub record IsTargetOf (row : Maybe (List ℕ)) (arity count i : ℕ) (r : Maybe ℕ) : Type 0 where
  pub goes : (q : ℕ) → r ≡ Some q → (targets : List ℕ) × (row ≡ Some targets) × (i < count) × (i < arity) × (i < 4) × (get_or targets i 0 ≡ q)
  pub stops : r ≡ None → (ts : Terms) → countᵗ ts ≡ count → IfSome row (λ targets. length targets ≡ 4) → Replay.descend i ts (targets_of arity row) ≡ none

-- letter i + 1
pub record Descends (file index : List ℕ) (constructors : ℕ) (table : List (List (List ℕ))) (cells cells' : List ℕ) (held : Held) (i top : ℕ) (r : Result Held Fault) : Type 0 where
  pub long : length cells' ≡ length cells
  pub leads : (rules : ℕ) (rs : List Record) → Replaying file index rules constructors table rs → (t : Term) (q : ℕ) → Ready file cells rs held top t q
      → LeadsTo file cells' top (suc i) (Replay.follow (automaton_of rs) (plan_of rs) (suc i) t q) r

-- either letter
pub record Follows (file index : List ℕ) (rules constructors : ℕ) (table : List (List (List ℕ))) (cells cells' : List ℕ) (held : Held) (letter top : ℕ) (r : Result Held Fault) : Type 0 where
  pub long : length cells' ≡ length cells
  pub leads : (rs : List Record) → Replaying file index rules constructors table rs → (t : Term) (q : ℕ) → Ready file cells rs held top t q
      → LeadsTo file cells' top letter (Replay.follow (automaton_of rs) (plan_of rs) letter t q) r

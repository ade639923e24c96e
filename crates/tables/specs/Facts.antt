-- What our own crates promise each other; nothing here has to be believed.
-- What the flat table of a check says of a file's types, bindings, automaton and bodies.
use Rattle.std.specs.Prelude.{ℕ, zero, suc, ◌+◌, ◌*◌, ◌/◌, ◌%◌, ◌^◌, ◌<◌, ◌≤◌, ◌≡◌, true, length, get_or, drop}
use mathlib.Core.List.{List, ◌++◌, Memᴰ}
use Rattle.std.proofs.Math.Option.{none, some}
use Rattle.scheme.specs.Terms.{Head, con, nt, par, Term, node, Terms, countᵗ, nodes}
use Rattle.scheme.specs.Prefix.{Node, flat, flats}
use Rattle.scheme.specs.Types.{Ty, state, arrow, Tys, members, final, off}
use Rattle.scheme.specs.Typing.{Binding}
use Rattle.scheme.specs.Flags.{is_kept}
use Rattle.casefile.specs.Records.{Record}
use Rattle.casefile.specs.Kinds.{Kind, count}
use Rattle.casefile.specs.Tables.{types_of, bindings_of, state_count_spec, transitions_of, targets_at}
use Rattle.index.specs.layout.Layout.{max_states, max_nodes, max_members, max_constructors, max_goals, word_bits, no_number}
use Rattle.marks.specs.Marks.{bit_of, In}
use Rattle.tables.specs.reading.Cells.{result_of, end_of, states_of_spec, arrows_of_spec, many_of_spec, member_of_spec, near_of_spec, mask_of, symbol_of, own_of, group_of, present_of_spec, arity_of_spec, targets_of_spec, node_at}

-- the number g stands for a type as a goal: a state by its number, an arrow by the number of its type behind the states
pub data Goal (rs : List Record) (g : ℕ) (τ : Ty) : Type 0 where
  of_state_law : (q : ℕ) → q < max_states → g ≡ q → τ ≡ state q → Goal rs g τ
  of_arrow : (m : ℕ) (a : Tys) (r : Ty) → m < count Kind.type rs → g ≡ max_states + m → get_or (types_of rs) m (state 0) ≡ arrow a r → τ ≡ arrow a r → Goal rs g τ

-- the row of a state
pub record StateRow (t : List ℕ) (q : ℕ) : Type 0 where
  pub no_result : result_of t q ≡ no_number
  pub own_end : end_of t q ≡ q
  pub no_members : many_of_spec t q ≡ 0

-- the row of an arrow
pub record ArrowRow (rs : List Record) (t : List ℕ) (g : ℕ) (a : Tys) (r : Ty) : Type 0 where
  pub result : Goal rs (result_of t g) r
  pub ends : final r ≡ state (end_of t g)
  pub end_small : end_of t g < max_states
  pub many : many_of_spec t g ≡ length (members a)
  pub few : length (members a) ≤ max_members
  pub member : (j : ℕ) → j < length (members a) → Goal rs (member_of_spec t g j) (get_or (members a) j (state 0))
  pub states_in : (q : ℕ) → q < max_states → bit_of q (states_of_spec t g) ≡ 1 → Memᴰ (state q) (members a)
  pub states_out : (q : ℕ) → Memᴰ (state q) (members a) → bit_of q (states_of_spec t g) ≡ 1
  pub pure : arrows_of_spec t g ≡ 0 → (b : Tys) (s : Ty) → Memᴰ (arrow b s) (members a) → ⊥
  pub near : (near_of_spec t g ≡ no_number → ⊥) → (j : ℕ) → j < length (members a) → (member_of_spec t g j / word_bits ≡ near_of_spec t g) × (bit_of (member_of_spec t g j % word_bits) (mask_of t g) ≡ 1)

-- the rows of states and arrows; two goals with the same number are the same type, and no two have the number of another
pub record TypesAre (rs : List Record) (t : List ℕ) : Type 0 where
  pub few_types_law : count Kind.type rs + max_states ≤ max_goals
  pub state_row : (q : ℕ) → q < max_states → StateRow t q
  pub arrow_row : (g : ℕ) (a : Tys) (r : Ty) → Goal rs g (arrow a r) → ArrowRow rs t g a r
  pub one_number : (g h : ℕ) (τ : Ty) → Goal rs g τ → Goal rs h τ → g ≡ h

-- what stands for a binding where there is none
abbrev pub no_binding : Binding
no_binding = record { nonterminal = 0; type = state 0 }

abbrev pub binding_at : List Record → ℕ → Binding
binding_at rs b = get_or (bindings_of rs) b no_binding

-- the nonterminal and the type of each binding, and the bindings of each nonterminal: they stand between its entry and the next, and no
-- other does
pub record BindingsAre (rs : List Record) (t : List ℕ) : Type 0 where
  pub symbol : (b : ℕ) → b < count Kind.binding rs → symbol_of t b ≡ (binding_at rs b).nonterminal
  pub own : (b : ℕ) → b < count Kind.binding rs → Goal rs (own_of t b) (binding_at rs b).type
  pub grouped : (b : ℕ) → b < count Kind.binding rs → (group_of t (binding_at rs b).nonterminal ≤ b) × (b < group_of t (suc (binding_at rs b).nonterminal))
  pub between : (f b : ℕ) → f < count Kind.nonterminal rs → group_of t f ≤ b → b < group_of t (suc f) → (b < count Kind.binding rs) × ((binding_at rs b).nonterminal ≡ f)

-- the transition of a state and a constructor
pub record TransitionIs (rs : List Record) (t : List ℕ) (c q : ℕ) (qs : List ℕ) : Type 0 where
  pub there : targets_at (transitions_of rs) q c ≡ some qs
  pub arity : length qs ≡ arity_of_spec t c
  pub target : (k : ℕ) → k < length qs → get_or qs k 0 ≡ targets_of_spec t c q / 16 ^ k % 16

pub record AutomatonIs (rs : List Record) (t : List ℕ) : Type 0 where
  pub within : (q c : ℕ) (qs : List ℕ) → targets_at (transitions_of rs) q c ≡ some qs → (q < state_count_spec rs) × (q < max_states) × (c < max_constructors)
  pub few : (c : ℕ) → c < max_constructors → arity_of_spec t c ≤ 4
  pub present : (q c : ℕ) → q < max_states → c < max_constructors → bit_of q (present_of_spec t c) ≡ 1 → (qs : List ℕ) × TransitionIs rs t c q qs
  pub absent : (q c : ℕ) → q < max_states → c < max_constructors → (bit_of q (present_of_spec t c) ≡ 1 → ⊥) → targets_at (transitions_of rs) q c ≡ none

-- the sets of candidates, a row of words for each goal: the kept bindings whose type is the goal with some arrows off
pub record CandidatesAre (rs : List Record) (kept sets : List ℕ) (words : ℕ) : Type 0 where
  pub all_in : (b : ℕ) → b < count Kind.binding rs → is_kept (get_or kept b 0) ≡ true → (k g : ℕ) (σ : Ty) → k < 256 → off k (binding_at rs b).type ≡ some σ → Goal rs g σ → In sets (g * words) b
  pub kept_only : (b g : ℕ) → b < count Kind.binding rs → g < max_goals → In sets (g * words) b → is_kept (get_or kept b 0) ≡ true
  pub chained : (b g : ℕ) → b < count Kind.binding rs → g < max_goals → In sets (g * words) b → (k : ℕ) × (σ : Ty) × (k < 256) × (off k (binding_at rs b).type ≡ some σ) × Goal rs g σ

-- term t stands at node i
abbrev pub At : List Node → ℕ → Term → Type 0
At ns i t = (rest : List Node) × (drop i ns ≡ flat t ++ rest)

-- terms ts stand one after another from node i on
abbrev pub AllAt : List Node → ℕ → Terms → Type 0
AllAt ns i ts = (rest : List Node) × (drop i ns ≡ flats ts ++ rest)

-- the head by a tag and a number
unfoldable pub head_by : ℕ → ℕ → Head
head_by zero k = con k
head_by (suc zero) k = nt k
head_by (suc (suc tag)) k = par k

-- a node of the table is the head of a term; a nonterminal is one of a given number
pub record NodeIs (symbols : ℕ) (t : List ℕ) (base i : ℕ) (h : Head) (ts : Terms) : Type 0 where
  pub inside : i < max_nodes
  pub head : head_by (node_at t base i).tag (node_at t base i).number ≡ h
  pub arguments : (node_at t base i).count ≡ countᵗ ts
  pub few : countᵗ ts < 256
  pub behind : (node_at t base i).next ≡ i + nodes (node h ts)
  pub known : (k : ℕ) → h ≡ nt k → k < symbols

-- the nodes of a body
abbrev pub NodesAre : ℕ → List ℕ → ℕ → List Node → Type 0
NodesAre symbols t base ns = (i : ℕ) (h : Head) (ts : Terms) → At ns i (node h ts) → NodeIs symbols t base i h ts

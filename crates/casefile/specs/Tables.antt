-- What the records of a file say: sorts, constructors, nonterminals, bodies, automaton, types and bindings.
-- Section "The case file" of the scope. Each table is read from records that passed the tests of specs/Refusals.antt;
-- what such records cannot hold is read as 0.
use Rattle.std.specs.Prelude.{ℕ, ◌&&◌, List, [], ◌∷◌, ◌++◌, map, eqb, length, get_or, take, drop}
use Rattle.std.proofs.Math.Option.{Option, none, some}
use Rattle.scheme.specs.Lists.{choose◌then◌else◌, last_or}
use Rattle.scheme.specs.Sorts.{Sort, o, ◌⇒◌}
use Rattle.scheme.specs.Terms.{Head, con, nt, par, Term, Terms, []ᵗ, ◌∷ᵗ◌}
use Rattle.scheme.specs.Prefix.{Node, terms}
use Rattle.scheme.specs.Reduction.{Plan, start}
use Rattle.scheme.specs.Types.{Ty, state, arrow, Tys, []ʸ, ◌∷ʸ◌}
use Rattle.scheme.specs.Typing.{Automaton, Binding}
use Rattle.casefile.specs.Fields.{byte, word}
use Rattle.casefile.specs.Records.{Record}
use Rattle.casefile.specs.Kinds.{Kind, payloads}

-- a table with one entry more for each payload, which f makes of the entries so far and the payload
unfoldable pub grow : {A : Type 0} → (List A → List ℕ → A) → List A → List (List ℕ) → List A
grow f table [] = table
grow f table (p ∷ ps) = grow f (table ++ (f table p ∷ [])) ps

-- a sort record: "from (2), to (2): earlier sort numbers"
unfoldable pub sort_from : List Sort → List ℕ → Sort
sort_from sorts p = get_or sorts (word p 0) o ⇒ get_or sorts (word p 2) o

-- the sorts: "Sort 0 is o, trees, and is not listed; records are sorts 1, 2, .."
unfoldable pub sorts_of : List Record → List Sort
sorts_of rs = grow sort_from (o ∷ []) (payloads Kind.sort rs)

-- the constructors' argument counts: "number of arguments (1)"
unfoldable pub arities_of : List Record → List ℕ
arities_of rs = map (λ (p : List ℕ). byte p 0) (payloads Kind.constructor rs)

-- the nonterminals' sorts: "sort (2)"
unfoldable pub signatures_of : List Record → List Sort
signatures_of rs = let sorts = sorts_of rs in map (λ (p : List ℕ). get_or sorts (word p 0) o) (payloads Kind.nonterminal rs)

-- a node of a body as the file has it: "four bytes a node: tag .., number (2), argument count"
pub record Cell : Type 0 where
  pub tag : ℕ
  pub number : ℕ
  pub count : ℕ

-- the nodes of a body as the file has them
unfoldable pub cells_of : List ℕ → List Cell
cells_of [] = []
cells_of (t ∷ []) = []
cells_of (t ∷ a ∷ []) = []
cells_of (t ∷ a ∷ b ∷ []) = []
cells_of (t ∷ a ∷ b ∷ k ∷ l) = record { tag = t; number = word (a ∷ b ∷ []) 0; count = k } ∷ cells_of l

-- "tag (0 constructor, 1 nonterminal, 2 parameter)"
unfoldable pub head_of : Cell → Head
head_of c = get_or (con c.number ∷ nt c.number ∷ []) c.tag (par c.number)

-- the nodes of a body
unfoldable pub nodes_of : List ℕ → List Node
nodes_of p = map (λ (c : Cell). record { head = head_of c; count = c.count }) (cells_of p)

-- the first of some terms, or the start symbol
unfoldable pub first_term : Terms → Term
first_term []ᵗ = start
first_term (t ∷ᵗ ts) = t

-- the term of a rule: "A body is in prefix order"
unfoldable pub body_of : List ℕ → Term
body_of p = first_term (terms (nodes_of p))

-- the plan: "body of nonterminal 0, 1, .. in turn"
unfoldable pub plan_of : List Record → Plan
plan_of rs = map body_of (payloads Kind.rule rs)

-- "how many (1)" states; none before the states record
unfoldable pub state_count_spec : List Record → ℕ
state_count_spec rs = last_or 0 (map (λ (p : List ℕ). byte p 0) (payloads Kind.states rs))

-- a transition
pub record Transition : Type 0 where
  pub from : ℕ
  pub constructor : ℕ
  pub targets : List ℕ

-- "state (1), constructor (1), four target states (1 each)", as many of them as the constructor has arguments
unfoldable pub transition_of : List ℕ → List ℕ → Transition
transition_of arities p = record { from = byte p 0; constructor = byte p 1; targets = take (get_or arities (byte p 1) 0) (drop 2 p) }

-- the transitions, in file order
unfoldable pub transitions_of : List Record → List Transition
transitions_of rs = map (transition_of (arities_of rs)) (payloads Kind.transition rs)

-- the targets of the transition from a state at a constructor, where there is one
unfoldable pub targets_at : List Transition → ℕ → ℕ → Option (List ℕ)
targets_at [] q c = none
targets_at (t ∷ ts) q c = let others = targets_at ts q c in choose eqb t.from q && eqb t.constructor c then some t.targets else others

-- the automaton
unfoldable pub automaton_of : List Record → Automaton
automaton_of rs = record { states = state_count_spec rs; targets = targets_at (transitions_of rs) }

-- numbers of two bytes each
unfoldable pub words : List ℕ → List ℕ
words [] = []
words (a ∷ []) = []
words (a ∷ b ∷ l) = word (a ∷ b ∷ []) 0 ∷ words l

-- the members that numbers name
unfoldable pub members_at : List Ty → List ℕ → Tys
members_at types [] = []ʸ
members_at types (m ∷ ms) = get_or types m (state 0) ∷ʸ members_at types ms

-- "result (2) and 0 to 16 members (2 each), earlier type numbers"
unfoldable pub arrow_from : List Ty → List ℕ → Ty
arrow_from types [] = state 0
arrow_from types (r ∷ ms) = arrow (members_at types ms) (get_or types r (state 0))

-- a type record: "one byte: a state", or an arrow
unfoldable pub type_from : List Ty → List ℕ → Ty
type_from types p = choose eqb (length p) 1 then state (byte p 0) else arrow_from types (words p)

-- the types, in file order
unfoldable pub types_of : List Record → List Ty
types_of rs = grow type_from [] (payloads Kind.type rs)

-- the bindings offered: "nonterminal (2), type (2)"
unfoldable pub bindings_of : List Record → List Binding
bindings_of rs = let types = types_of rs in map (λ (p : List ℕ). record { nonterminal = word p 0; type = get_or types (word p 2) (state 0) }) (payloads Kind.binding rs)

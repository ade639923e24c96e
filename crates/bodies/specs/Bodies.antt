-- What our own crates promise each other; nothing here has to be believed.
-- The body of a rule read by node number: where each subterm ends, its sort and its depth.
use Rattle.std.specs.Prelude.{ℕ, suc, ◌+◌, ◌*◌, ◌/◌, ◌<◌, ◌≤◌, ◌≡◌, Bool, true, false, not, Option, Some, None, is_some, List, map, T, length, get_or, take, drop}
use Rattle.std.proofs.Math.Option.{some}
use Rattle.scheme.specs.Lists.{any}
use Rattle.scheme.specs.Sorts.{Sort, o, arguments}
use Rattle.scheme.specs.Sorting.{head_sort, sort_of, sort_after}
use Rattle.scheme.specs.Terms.{Head, Terms, []ᵗ, ◌∷ᵗ◌, countᵗ, nodes, nodes_all}
use Rattle.scheme.specs.Prefix.{Node, takeᵗ, terms, complete, depth, deepest}
use Rattle.casefile.specs.Fields.{field}
use Rattle.casefile.specs.Tables.{cells_of, head_of, nodes_of, first_term}
use Rattle.casefile.specs.Refusals.{wrong_cell_spec, wrong_body}
use Rattle.casefile.specs.Promises.{cell_at}
use Rattle.sorts.specs.codes.Sorted.{Code, Coded, Applied}
use Rattle.bodies.specs.declared.Heads.{Heads}
use Rattle.bodies.specs.declared.Subterm.{Subterm}
use Rattle.index.specs.layout.Layout.{max_nodes, max_depth, rows_size}

-- the tables of heads have the codes of sorts
abbrev pub CodedBy : List Sort → Heads → Type 0
CodedBy sorts heads = Coded sorts heads.sorts heads.trees.now

-- r is the code of the sort of a head with an argument off, by the tables of heads
abbrev pub AppliedBy : Heads → ℕ → ℕ → Option ℕ → Type 0
AppliedBy heads head argument r = Applied heads.sorts heads.trees.now head argument r

-- the tables hold terms one after another from node `at` up to node n: where each ends, the code of its sort, its depth
unfoldable pub Held : (Head → Sort) → List Sort → List ℕ → List ℕ → List ℕ → ℕ → Terms → ℕ → Type 0
Held hs sorts ends codes depths n []ᵗ at = at ≡ n
Held hs sorts ends codes depths n (t ∷ᵗ ts) at =
    (at < n) × (get_or ends at 0 ≡ at + nodes t) × ((s : Sort) × (sort_of hs t ≡ some s) × Code sorts (get_or codes at 0) s)
    × (get_or depths at 0 ≡ depth t) × (depth t ≤ max_depth) × Held hs sorts ends codes depths n ts (at + nodes t)

-- the result of k arguments from node `at` on, of a head of sort s
pub record Fits (hs : Head → Sort) (sorts : List Sort) (ts : Terms) (s : Sort) (at k : ℕ) (r : Subterm) : Type 0 where
  pub enough : k ≤ countᵗ ts
  pub end_is : r.end ≡ at + nodes_all (takeᵗ k ts)
  pub rest : Sort
  pub rest_is : sort_after hs (takeᵗ k ts) s ≡ some rest
  pub code : Code sorts r.sort rest
  pub deep_is : r.deep ≡ deepest (takeᵗ k ts)

-- r is the result of k arguments from node `at` on, or none where they do not fit a head's sort; its end and its sort fit two bytes
pub record ArgumentsFit (heads : Heads) (ends codes depths : List ℕ) (n at k head : ℕ) (r : Option Subterm) : Type 0 where
  pub fits : (hs : Head → Sort) (sorts : List Sort) (ts : Terms) (s : Sort) → CodedBy sorts heads → Held hs sorts ends codes depths n ts at
      → Code sorts head s → (a : Subterm) → r ≡ Some a → Fits hs sorts ts s at k a
  pub misfit : (hs : Head → Sort) (sorts : List Sort) (ts : Terms) (s : Sort) → CodedBy sorts heads → Held hs sorts ends codes depths n ts at
      → Code sorts head s → r ≡ None → k ≤ countᵗ ts → (x : Sort) → sort_after hs (takeᵗ k ts) s ≡ some x → ⊥
  pub end_small : (a : Subterm) → r ≡ Some a → a.end < 65536
  pub sort_small : (a : Subterm) → r ≡ Some a → a.sort < 65536

-- r is what the tables of n nodes hold of a node; none behind the last
pub record HeldAs (ends codes depths : List ℕ) (n at : ℕ) (r : Option Subterm) : Type 0 where
  pub behind : r ≡ None → n ≤ at
  pub inside : (a : Subterm) → r ≡ Some a → at < n
  pub end_is : (a : Subterm) → r ≡ Some a → a.end ≡ get_or ends at 0
  pub sort_is : (a : Subterm) → r ≡ Some a → a.sort ≡ get_or codes at 0
  pub deep_is : (a : Subterm) → r ≡ Some a → a.deep ≡ get_or depths at 0

-- the sorts of heads: constructors by their argument counts, nonterminals by the numbers of their sorts, parameters by the number of their nonterminal's sort
abbrev pub heads_by : List Sort → List ℕ → List ℕ → ℕ → Head → Sort
heads_by sorts counts numbers own = head_sort counts (map (λ (f : ℕ). get_or sorts f o) numbers) (arguments (get_or sorts own o))

-- what a body is judged by: the codes of sorts, the constructors' argument counts, the numbers of the nonterminals' sorts and that of the body's own; its nodes are in range
pub record BodyTables (sorts : List Sort) (counts numbers p : List ℕ) (heads : Heads) (own : ℕ) : Type 0 where
  pub coded : CodedBy sorts heads
  pub counts_are : take (length counts) heads.arities.now ≡ counts
  pub counts_small : (c : ℕ) → get_or counts c 0 ≤ 4
  pub numbers_are : take (length numbers) heads.signatures.now ≡ numbers
  pub numbers_below : (f : ℕ) → f < length numbers → get_or numbers f 0 < length sorts
  pub own_below : own < length sorts
  pub in_range : any (wrong_cell_spec (length counts) (length numbers) (length (arguments (get_or sorts own o)))) (cells_of p) ≡ false

-- r is the code of the sort of the head of node i
abbrev pub HeadCode : List ℕ → Heads → ℕ → ℕ → ℕ → Type 0
HeadCode p heads own i r =
    (sorts : List Sort) (counts numbers : List ℕ) → BodyTables sorts counts numbers p heads own → i < length p / 4
    → Code sorts r (heads_by sorts counts numbers own (head_of (cell_at p i)))

-- r is the code of the sort of the head of each node with a tag and a number
abbrev pub HeadOf : Heads → ℕ → ℕ → ℕ → ℕ → Type 0
HeadOf heads own tag number r =
    (p : List ℕ) (i : ℕ) → tag ≡ field 1 p (i * 4) → number ≡ field 2 p (i * 4 + 1) → HeadCode p heads own i r

-- every term has a sort, and nests 64 deep at most
unfoldable pub Goods : (Head → Sort) → Terms → Type 0
Goods hs []ᵗ = Unit
Goods hs (t ∷ᵗ ts) = ((s : Sort) × (sort_of hs t ≡ some s)) × (depth t ≤ max_depth) × Goods hs ts

-- from node i on the nodes are complete, and the tables hold their terms
pub record HeldFrom (hs : Head → Sort) (sorts : List Sort) (ns : List Node) (ends codes depths : List ℕ) (i : ℕ) : Type 0 where
  pub whole : T (complete (drop i ns))
  pub held : Held hs sorts ends codes depths (length ns) (terms (drop i ns)) i
  pub ends_are : (j : ℕ) → i ≤ j → j < length ns → get_or ends j 0 ≡ j + nodes (first_term (terms (drop j ns)))

-- the tables after node i was read: where those before held the nodes behind it, either they hold it too, or the body is not accepted
pub record NodeRead (p : List ℕ) (heads : Heads) (own i : ℕ) (ends codes depths ends' codes' depths' : List ℕ) (r : Bool) : Type 0 where
  pub long : length ends' ≡ length ends
  pub long_codes : length codes' ≡ length codes
  pub long_depths : length depths' ≡ length depths
  pub rest : (m : ℕ) → i < m → drop m ends' ≡ drop m ends
  pub holds : (sorts : List Sort) (counts numbers : List ℕ) → BodyTables sorts counts numbers p heads own
      → i < length p / 4 → i < length ends → i < length codes → i < length depths → HeldFrom (heads_by sorts counts numbers own) sorts (nodes_of p) ends codes depths (suc i)
      → r ≡ true → HeldFrom (heads_by sorts counts numbers own) sorts (nodes_of p) ends' codes' depths' i
  pub fails : (sorts : List Sort) (counts numbers : List ℕ) → BodyTables sorts counts numbers p heads own → i < length p / 4
      → HeldFrom (heads_by sorts counts numbers own) sorts (nodes_of p) ends codes depths (suc i)
      → r ≡ false → T (complete (nodes_of p)) → Goods (heads_by sorts counts numbers own) (terms (nodes_of p)) → ⊥

-- the tables have room for the nodes of a body
pub record Room (p ends codes depths : List ℕ) : Type 0 where
  pub few : length p / 4 ≤ max_nodes
  pub ends_long : length p / 4 ≤ length ends
  pub codes_long : length codes ≡ rows_size
  pub depths_long : length depths ≡ rows_size

-- node i was read, and where it fits, r is what the tables hold of it
pub record NodeTaken (p : List ℕ) (heads : Heads) (own i : ℕ) (ends codes depths ends' codes' depths' : List ℕ) (r : Option Subterm) : Type 0 where
  pub read : NodeRead p heads own i ends codes depths ends' codes' depths' (is_some r)
  pub held_as : (a : Subterm) → r ≡ Some a → HeldAs ends' codes' depths' (length p / 4) i r

-- r says whether the nodes of a body are complete, and sorted terms of 64 levels at most; then the tables hold them, and r is what they
-- hold of the first
pub record Scanned (p : List ℕ) (heads : Heads) (own : ℕ) (before ends codes depths : List ℕ) (r : Option Subterm) : Type 0 where
  pub long : length ends ≡ length before
  pub rest : drop (length p / 4) ends ≡ drop (length p / 4) before
  pub holds : (sorts : List Sort) (counts numbers : List ℕ) → BodyTables sorts counts numbers p heads own → length p / 4 ≤ length before
      → (a : Subterm) → r ≡ Some a → HeldFrom (heads_by sorts counts numbers own) sorts (nodes_of p) ends codes depths 0
  pub held_as : (a : Subterm) → r ≡ Some a → HeldAs ends codes depths (length p / 4) 0 r
  pub fails : (sorts : List Sort) (counts numbers : List ℕ) → BodyTables sorts counts numbers p heads own → length p / 4 ≤ length before
      → r ≡ None → 0 < length p / 4 → T (complete (nodes_of p)) → Goods (heads_by sorts counts numbers own) (terms (nodes_of p)) → ⊥

-- r says whether the body p is accepted, and where it is, each subterm ends at the node that `ends` says; entries behind the nodes are as before
pub record BodyDecided (p : List ℕ) (heads : Heads) (own : ℕ) (before ends : List ℕ) (r : Bool) : Type 0 where
  pub long : length ends ≡ length before
  pub rest : drop (length p / 4) ends ≡ drop (length p / 4) before
  pub decided : (sorts : List Sort) (counts numbers : List ℕ) → BodyTables sorts counts numbers p heads own → length p ≤ 1024
      → length p / 4 ≤ length before → r ≡ not (wrong_body counts (map (λ (f : ℕ). get_or sorts f o) numbers) (get_or sorts own o) p)
  pub ends_are : (sorts : List Sort) (counts numbers : List ℕ) → BodyTables sorts counts numbers p heads own → length p ≤ 1024
      → length p / 4 ≤ length before → r ≡ true → (i : ℕ) → i < length p / 4 → get_or ends i 0 ≡ i + nodes (first_term (terms (drop i (nodes_of p))))

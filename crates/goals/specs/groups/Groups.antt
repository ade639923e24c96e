-- What our own crates promise each other; nothing here has to be believed.
-- The bindings of a file, grouped by nonterminal: where the group of each begins.
use Rattle.std.specs.Prelude.{ℕ, suc, ◌+◌, ◌<◌, ◌≤◌, ◌≡◌, List, [], length, get_or}
use Rattle.casefile.specs.Fields.{word}
use Rattle.casefile.specs.Records.{Record}
use Rattle.casefile.specs.Kinds.{Kind, payloads, count}
use Rattle.casefile.specs.Promises.{Passed}
use Rattle.index.specs.layout.Layout.{bindings_at}
use Rattle.index.specs.entries.Index.{Indexed}

-- the nonterminal of a binding, as the file has it
abbrev pub nonterminal_in : List ℕ → List ℕ → ℕ → ℕ
nonterminal_in file index i = word file (get_or index (bindings_at + i) 0)

-- the nonterminal of a binding
abbrev pub nonterminal_of : List Record → ℕ → ℕ
nonterminal_of rs i = word (get_or (payloads Kind.binding rs) i []) 0

-- r is the first number from one on, below n, that f does not exceed, or n
pub record Sought (g : ℕ → ℕ) (n from f r : ℕ) : Type 0 where
  pub behind : from ≤ r
  pub within : r ≤ n
  pub passed : (i : ℕ) → from ≤ i → i < r → g i < f
  pub reached : r < n → f ≤ g r

abbrev pub Seeks : List ℕ → List ℕ → ℕ → ℕ → ℕ → ℕ → Type 0
Seeks file index n from f r = n ≤ 1024 → from ≤ n → Sought (nonterminal_in file index) n from f r

-- the groups, for each nonterminal and one behind the last: the bindings below entry f have earlier nonterminals than f, those from it on
-- have f or a later one
pub record Grouped (rs : List Record) (n : ℕ) (groups : List ℕ) : Type 0 where
  pub within : (f : ℕ) → f ≤ count Kind.nonterminal rs → get_or groups f 0 ≤ n
  pub below : (f i : ℕ) → f ≤ count Kind.nonterminal rs → i < get_or groups f 0 → nonterminal_of rs i < f
  pub from_on : (f i : ℕ) → f ≤ count Kind.nonterminal rs → get_or groups f 0 ≤ i → i < n → f ≤ nonterminal_of rs i

-- the table has the group of nonterminal f
pub record HasGroup (rs : List Record) (groups : List ℕ) (f : ℕ) : Type 0 where
  pub known : f < count Kind.nonterminal rs
  pub inside : suc f < length groups

-- the promise, for a file whose records passed and that has no more than `last` nonterminals
pub record Fills (file index : List ℕ) (n last : ℕ) (before groups : List ℕ) : Type 0 where
  pub long : length groups ≡ length before
  pub grouped : last < length before → (rs : List Record) → Passed rs → Indexed file index Kind.binding n rs → n ≤ 1024 → count Kind.nonterminal rs ≤ last → Grouped rs n groups

-- while the table is filled: the entries below f are in it, and binding b is the first that the last of them reached
pub record Sofar (g : ℕ → ℕ) (n b f : ℕ) (before groups : List ℕ) : Type 0 where
  pub long : length groups ≡ length before
  pub few : n ≤ 1024
  pub there : b ≤ n
  pub earlier : (i : ℕ) → i < b → g i < f
  pub entries : (e : ℕ) → e < f → get_or groups e 0 ≤ n
  pub lower : (e i : ℕ) → e < f → i < get_or groups e 0 → g i < e
  pub reached : (e : ℕ) → e < f → get_or groups e 0 < n → e ≤ g (get_or groups e 0)

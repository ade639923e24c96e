-- What our own crates promise each other; nothing here has to be believed.
-- Sorts by number: a listed sort by its number, a constructor's sort that is not listed by a number of its own.
use Rattle.std.specs.Prelude.{ℕ, suc, ◌+◌, ◌<◌, ◌≤◌, ◌≡◌, Option, Some, None, List, length, get_or}
use Rattle.scheme.specs.Sorts.{Sort, o, ◌⇒◌, arguments, tree_sort}
use Rattle.sorts.specs.declared.codes.Sorts.{Sorts}

-- the sorts that two arrays list: sort 0 is o, sort i is from sort froms[i] to sort tos[i], and no two are the same
pub record SortArrays (sorts : List Sort) (arrows : Sorts) : Type 0 where
  pub few : length sorts ≤ 1000
  pub positive : 0 < length sorts
  pub start : get_or sorts 0 o ≡ o
  pub made : (i : ℕ) → 0 < i → i < length sorts → get_or sorts i o ≡ get_or sorts (get_or arrows.froms.now i 0) o ⇒ get_or sorts (get_or arrows.tos.now i 0) o
  pub from_below : (i : ℕ) → 0 < i → i < length sorts → get_or arrows.froms.now i 0 < i
  pub to_below : (i : ℕ) → 0 < i → i < length sorts → get_or arrows.tos.now i 0 < i
  pub distinct : (i j : ℕ) → i < length sorts → j < length sorts → get_or sorts i o ≡ get_or sorts j o → i ≡ j

-- the code of a sort: its number where it is listed, 1000 + m of a constructor's sort of m arguments that is not
pub data Code (sorts : List Sort) (c : ℕ) (s : Sort) : Type 0 where
  listed : c < length sorts → get_or sorts c o ≡ s → Code sorts c s
  unlisted : (m : ℕ) → m ≤ 4 → c ≡ 1000 + m → s ≡ tree_sort m → ((i : ℕ) → i < length sorts → get_or sorts i o ≡ tree_sort m → ⊥) → Code sorts c s

-- the codes of the constructors' sorts, by their argument counts
abbrev pub TreeCodes : List Sort → List ℕ → Type 0
TreeCodes sorts trees = (m : ℕ) → m ≤ 4 → Code sorts (get_or trees m 0) (tree_sort m)

-- sorts by code: the listed ones and the constructors'
pub record Coded (sorts : List Sort) (arrows : Sorts) (trees : List ℕ) : Type 0 where
  pub table : SortArrays sorts arrows
  pub constructors : TreeCodes sorts trees

-- a sort s with an argument of sort t off: none where s takes no such argument, the code of the sort that is left where it does
pub data Off (sorts : List Sort) (s t : Sort) (r : Option ℕ) : Type 0 where
  misfit : r ≡ None → ((b : Sort) → s ≡ t ⇒ b → ⊥) → Off sorts s t r
  off : (code : ℕ) → r ≡ Some code → code < 2000 → (b : Sort) → s ≡ t ⇒ b → Code sorts code b → Off sorts s t r

abbrev pub Applied : Sorts → List ℕ → ℕ → ℕ → Option ℕ → Type 0
Applied arrows trees head argument r =
    (sorts : List Sort) (s t : Sort) → Coded sorts arrows trees → Code sorts head s → Code sorts argument t → Off sorts s t r

-- r is the number of the sort from o to sort `to`, or none of the n sorts is it and r is none
pub record ArrowTo (arrows : Sorts) (n to : ℕ) (r : Option ℕ) : Type 0 where
  pub is : (i : ℕ) → r ≡ Some i → (i < n) × (0 < i) × (get_or arrows.froms.now i 0 ≡ 0) × (get_or arrows.tos.now i 0 ≡ to)
  pub none_is : r ≡ None → (i : ℕ) → 0 < i → i < n → get_or arrows.froms.now i 0 ≡ 0 → get_or arrows.tos.now i 0 ≡ to → ⊥

-- r is the code of the sort of constructors of m + 1 arguments, made of that of m arguments; 1001 + m is to stand for it where it is not listed
abbrev pub NextTree : Sorts → ℕ → ℕ → ℕ → ℕ → Type 0
NextTree arrows n code other r =
    (sorts : List Sort) (m : ℕ) → SortArrays sorts arrows → n ≡ length sorts → m < 4 → other ≡ 1001 + m → Code sorts code (tree_sort m) → Code sorts r (tree_sort (suc m))

-- r is the number of the sort of parameter j of a nonterminal whose sort has the number own
abbrev pub ParameterSort : Sorts → ℕ → ℕ → ℕ → Type 0
ParameterSort arrows own j r =
    (sorts : List Sort) → SortArrays sorts arrows → own < length sorts → j < length (arguments (get_or sorts own o))
    → (r < length sorts) × (get_or sorts r o ≡ get_or (arguments (get_or sorts own o)) j o)

-- r has the numbers of the sorts of the first 8 parameters
abbrev pub ParameterSorts : Sorts → ℕ → List ℕ → Type 0
ParameterSorts arrows own r = (j : ℕ) → j < 8 → ParameterSort arrows own j (get_or r j 0)

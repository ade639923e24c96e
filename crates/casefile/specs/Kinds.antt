-- The kinds of records, and the records of one kind. Section "The case file" of the scope, the table of kinds.
use Rattle.std.specs.Prelude.{ℕ, List, [], ◌∷◌, map, length, get_or, eqb}
use Rattle.std.proofs.Math.Option.{Option, none, some}
use Rattle.scheme.specs.Lists.{select}
use Rattle.casefile.specs.Records.{Record}

-- the nine kinds, in the order of their numbers
pub data Kind : Type 0 where
  sort constructor nonterminal rule states transition type binding path : Kind

-- a kind's number in the file
unfoldable pub number : Kind → ℕ
number sort = 1
number constructor = 2
number nonterminal = 3
number rule = 4
number states = 5
number transition = 6
number type = 7
number binding = 8
number path = 9

-- the kind with a number, 1 to 9
unfoldable pub kind_of : ℕ → Option Kind
kind_of n = get_or (none ∷ some sort ∷ some constructor ∷ some nonterminal ∷ some rule ∷ some states ∷ some transition ∷ some type ∷ some binding ∷ some path ∷ []) n none

-- the records of a kind: "Entries of each kind are numbered from 0 in file order"
unfoldable pub of_kind : Kind → List Record → List Record
of_kind k rs = select (λ (r : Record). eqb r.kind (number k)) rs

-- their payloads
unfoldable pub payloads : Kind → List Record → List (List ℕ)
payloads k rs = map (λ (r : Record). r.payload) (of_kind k rs)

-- how many there are
unfoldable pub count : Kind → List Record → ℕ
count k rs = length (of_kind k rs)

-- the place of record number i of a kind
abbrev pub place_of : Kind → List Record → ℕ → ℕ
place_of k rs i = get_or (map (λ (r : Record). r.place) (of_kind k rs)) i 0

-- What our own crates promise each other; nothing here has to be believed.
-- The bodies of all rules of a file, by arrays of what its records say: refusal 9 of the scope, its second part.
use Rattle.std.specs.Prelude.{ℕ, ◌+◌, ◌/◌, ◌<◌, ◌≤◌, ◌≡◌, Bool, IsTrue, ◌↔◌, Option, Some, None, List, [], length, get_or}
use Rattle.std.proofs.Math.Option.{none, some}
use Rattle.casefile.specs.Fields.{field}
use Rattle.casefile.specs.Records.{Record}
use Rattle.casefile.specs.Promises.{Bytes, Passed}
use Rattle.casefile.specs.Kinds.{sort, constructor, nonterminal, rule, of_kind, payloads, place_of}
use Rattle.casefile.specs.Tables.{arities_of, signatures_of}
use Rattle.casefile.specs.Refusals.{first, wrong_bodies}
use Rattle.index.specs.layout.Layout.{max_sorts, max_constructors, max_nonterminals}
use Rattle.index.specs.entries.Index.{Indexed}
use Rattle.rules.specs.reading.RuleBodies.{nodes_in, rule_of, first_node, end_at}

-- r is the field of one or two bytes at a place, and fits two
pub record FieldOf (width : ℕ) (file : List ℕ) (at r : ℕ) : Type 0 where
  pub value : 1 ≤ width → width ≤ 2 → r ≡ field width file at
  pub bound : r < 65536

-- a table after the fields at byte `at` of n payloads, those of the entries of the index from `from` on, were stored from place `to` on
pub record Filled (width : ℕ) (file index : List ℕ) (from at n to : ℕ) (before after : List ℕ) : Type 0 where
  pub long : length after ≡ length before
  pub there : 1 ≤ width → width ≤ 2 → (i : ℕ) → i < n → get_or after (to + i) 0 ≡ field width file (get_or index (from + i) 0 + at)

-- r says whether the counts are within the limits of their kinds, with a nonterminal for each rule
abbrev pub WithinLimits : ℕ → ℕ → ℕ → ℕ → Bool → Type 0
WithinLimits sorts constructors nonterminals rules r =
    IsTrue r ↔ ((sorts ≤ max_sorts) × (constructors ≤ max_constructors) × (nonterminals ≤ max_nonterminals) × (rules ≤ nonterminals))

-- the records passed their tests, and the index has their sorts, constructors, nonterminals and rules
pub record Filed (file index : List ℕ) (sorts constructors nonterminals rules : ℕ) (rs : List Record) : Type 0 where
  pub passed : Passed rs
  pub sort_bytes : (i : ℕ) → Bytes (get_or (payloads sort rs) i [])
  pub sorts_there : Indexed file index sort sorts rs
  pub constructors_there : Indexed file index constructor constructors rs
  pub nonterminals_there : Indexed file index nonterminal nonterminals rs
  pub rules_there : Indexed file index rule rules rs
  pub few_sorts : sorts ≤ max_sorts
  pub few_constructors : constructors ≤ max_constructors
  pub few_nonterminals : nonterminals ≤ max_nonterminals
  pub few_rules : rules ≤ nonterminals

-- r says which of a given number of rules is the first refused by 9, none where none is; then `ends` has the end of each subterm of each rule
pub record BodiesRead (rs : List Record) (rules : ℕ) (ends : List ℕ) (r : Option ℕ) : Type 0 where
  pub within : (f : ℕ) → r ≡ Some f → f < rules
  pub none_refused : r ≡ None → first (wrong_bodies (arities_of rs) (signatures_of rs) (signatures_of rs) (of_kind rule rs)) ≡ none
  pub first_refused : (f : ℕ) → r ≡ Some f → first (wrong_bodies (arities_of rs) (signatures_of rs) (signatures_of rs) (of_kind rule rs)) ≡ some (record { number = 9; place = place_of rule rs f })
  pub ends_are : r ≡ None → (f i : ℕ) → f < rules → i < length (rule_of rs f) / 4 → get_or ends (first_node rs f + i) 0 ≡ end_at rs f i

-- the answer, whatever records the file has that the index has, where the table has room for the ends
abbrev pub FindsWrongBody : List ℕ → List ℕ → ℕ → ℕ → ℕ → ℕ → List ℕ → List ℕ → Option ℕ → Type 0
FindsWrongBody file index sorts constructors nonterminals rules before after r =
    (rs : List Record) → Filed file index sorts constructors nonterminals rules rs → nodes_in (payloads rule rs) ≤ length before → BodiesRead rs rules after r

-- What our own crates promise each other; nothing here has to be believed.
-- What the tests of one record give: the number of the first test met, whatever records came before that agree with the counts.
use Rattle.std.specs.Prelude.{ℕ, suc, ◌<◌, ◌≤◌, ◌≡◌, false, List, [], length, get_or}
use Rattle.scheme.specs.Sorts.{o, arguments}
use Rattle.casefile.specs.Fields.{word}
use Rattle.casefile.specs.Records.{Record}
use Rattle.casefile.specs.Kinds.{Kind, sort, constructor, nonterminal, rule, transition, type, binding, payloads, count}
use Rattle.casefile.specs.Tables.{sorts_of, state_count_spec}
use Rattle.casefile.specs.Refusals.{wrong_length}
use Rattle.index.specs.layout.Layout.{max_nonterminals}
use Rattle.index.specs.entries.Codes.{code_for}
use Rattle.index.specs.entries.Index.{Indexed}
use Rattle.index.specs.entries.Chains.{Chained}

-- r is entry i of the index, and fits two bytes; 0 past the end
pub record IsPlace (index : List ℕ) (i r : ℕ) : Type 0 where
  pub value : r ≡ get_or index i 0
  pub bound : r < 65536

-- the first n payloads of a kind passed test 4
abbrev pub Fitting : Kind → ℕ → List Record → Type 0
Fitting k n rs = (i : ℕ) → i < n → wrong_length k (length (get_or (payloads k rs) i [])) ≡ false

-- a payload of a kind whose tests need only the count n of the kind so far
abbrev pub Tests : Kind → ℕ → List ℕ → ℕ → Type 0
Tests k n p r = (rs : List Record) → count k rs ≡ n → r ≡ code_for rs p k

-- a nonterminal after n others, with a given number of sorts
abbrev pub TestsNonterminal : ℕ → ℕ → List ℕ → ℕ → Type 0
TestsNonterminal sorts n p r = (rs : List Record) → count nonterminal rs ≡ n → length (sorts_of rs) ≡ sorts → r ≡ code_for rs p nonterminal

module _ (file index : List ℕ) (n : ℕ) where
  -- a binding after n others that the index has, with a given number of nonterminals and types
  abbrev pub TestsBinding : ℕ → ℕ → List ℕ → ℕ → Type 0
  TestsBinding nonterminals types p r =
      (rs : List Record) → Indexed file index binding n rs → Fitting binding n rs
      → count nonterminal rs ≡ nonterminals → count type rs ≡ types → r ≡ code_for rs p binding

  -- a transition after n others that the index has, with a given number of states, and constructors that the index has
  abbrev pub TestsTransition : ℕ → ℕ → List ℕ → ℕ → Type 0
  TestsTransition states constructors p r =
      (rs : List Record) → Indexed file index transition n rs → Fitting transition n rs
      → state_count_spec rs ≡ states → Indexed file index constructor constructors rs → Fitting constructor constructors rs
      → r ≡ code_for rs p transition

-- `lens` holds the argument counts of sort 0 and of n listed sorts
abbrev pub SortLens : List ℕ → ℕ → List Record → Type 0
SortLens lens n rs = (i : ℕ) → i < suc n → get_or lens i 0 ≡ length (arguments (get_or (sorts_of rs) i o))

module _ (file index : List ℕ) where
  -- a sort after n others
  abbrev pub TestsSort : List ℕ → ℕ → List ℕ → ℕ → Type 0
  TestsSort lens n p r = (rs : List Record) → Indexed file index sort n rs → SortLens lens n rs → r ≡ code_for rs p sort

  -- a rule after n others, with a given number of sorts, constructors and nonterminals
  abbrev pub TestsRule : List ℕ → ℕ → ℕ → ℕ → ℕ → List ℕ → ℕ → Type 0
  TestsRule lens n sorts constructors nonterminals p r =
      (rs : List Record) → count rule rs ≡ n → SortLens lens sorts rs → count constructor rs ≡ constructors
      → Indexed file index nonterminal nonterminals rs → Fitting nonterminal nonterminals rs → nonterminals ≤ max_nonterminals
      → ((i : ℕ) → i < nonterminals → word (get_or (payloads nonterminal rs) i []) 0 < suc sorts)
      → r ≡ code_for rs p rule

  -- a type after n others, which are chained, with a given number of states
  abbrev pub TestsType : ℕ → ℕ → List ℕ → ℕ → Type 0
  TestsType n states p r = (rs : List Record) → Indexed file index type n rs → state_count_spec rs ≡ states → Chained index (payloads type rs) n → r ≡ code_for rs p type

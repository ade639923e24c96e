-- What our own crates promise each other; nothing here has to be believed.
-- The bodies of the rules of a file, one after another.
use Rattle.std.specs.Prelude.{ℕ, ◌+◌, ◌/◌, ◌<◌, ◌≤◌, ◌≡◌, Bool, true, false, Option, Some, None, List, [], ◌∷◌, map, length, get_or, take, drop}
use Rattle.scheme.specs.Sorts.{o}
use Rattle.scheme.specs.Terms.{nodes}
use Rattle.scheme.specs.Prefix.{terms}
use Rattle.casefile.specs.Fields.{word}
use Rattle.casefile.specs.Records.{Record}
use Rattle.casefile.specs.Kinds.{nonterminal, rule, payloads}
use Rattle.casefile.specs.Tables.{sorts_of, arities_of, signatures_of, nodes_of, first_term}
use Rattle.casefile.specs.Refusals.{wrong_body}
use Rattle.index.specs.layout.Layout.{max_nonterminals, max_body}
use Rattle.index.specs.entries.Index.{Indexed}
use Rattle.bodies.specs.declared.Heads.{Heads}
use Rattle.bodies.specs.Bodies.{BodyTables}

-- the nodes of a given number of bodies, four bytes a node
unfoldable pub nodes_in : List (List ℕ) → ℕ
nodes_in [] = 0
nodes_in (p ∷ ps) = length p / 4 + nodes_in ps

-- the payload of rule f
abbrev pub rule_of : List Record → ℕ → List ℕ
rule_of rs f = get_or (payloads rule rs) f []

-- the number of the first node of rule f, where the nodes of all rules are numbered one after another
abbrev pub first_node : List Record → ℕ → ℕ
first_node rs f = nodes_in (take f (payloads rule rs))

-- the numbers of the nonterminals' sorts
abbrev pub numbers_of : List Record → List ℕ
numbers_of rs = map (λ (p : List ℕ). word p 0) (payloads nonterminal rs)

-- the body of rule f is turned away
abbrev pub wrong_at : List Record → ℕ → Bool
wrong_at rs f = wrong_body (arities_of rs) (signatures_of rs) (get_or (signatures_of rs) f o) (rule_of rs f)

-- the node behind the subterm at node i of rule f
abbrev pub end_at : List Record → ℕ → ℕ → ℕ
end_at rs f i = i + nodes (first_term (terms (drop i (nodes_of (rule_of rs f)))))

-- the arrays hold what the bodies of a given number of rules are judged by, and the index has the rules
pub record Judged (file index : List ℕ) (heads : Heads) (rules : ℕ) (rs : List Record) : Type 0 where
  pub there : Indexed file index rule rules rs
  pub few : rules ≤ max_nonterminals
  pub some_nodes : (f : ℕ) → f < rules → 4 ≤ length (rule_of rs f)
  pub few_nodes : (f : ℕ) → f < rules → length (rule_of rs f) ≤ max_body
  pub setting : (f : ℕ) → f < rules → BodyTables (sorts_of rs) (arities_of rs) (numbers_of rs) (rule_of rs f) heads (get_or heads.signatures.now f 0)
  pub sort_is : (f : ℕ) → f < rules → get_or (sorts_of rs) (get_or heads.signatures.now f 0) o ≡ get_or (signatures_of rs) f o

-- rule f was read: r is the number of its nodes where its body is accepted, and then `after` says where each subterm ends; else r is none
pub record RuleRead (file index : List ℕ) (heads : Heads) (f : ℕ) (before after : List ℕ) (r : Option ℕ) : Type 0 where
  pub long : length after ≡ length before
  pub within : (n : ℕ) → r ≡ Some n → n ≤ length before
  pub fits : (rules : ℕ) (rs : List Record) → Judged file index heads rules rs → f < rules → length (rule_of rs f) / 4 ≤ length before
      → (n : ℕ) → r ≡ Some n → (n ≡ length (rule_of rs f) / 4) × (wrong_at rs f ≡ false) × ((i : ℕ) → i < length (rule_of rs f) / 4 → get_or after i 0 ≡ end_at rs f i)
  pub fails : (rules : ℕ) (rs : List Record) → Judged file index heads rules rs → f < rules → length (rule_of rs f) / 4 ≤ length before
      → r ≡ None → wrong_at rs f ≡ true

-- the rules before f are accepted, and `ends` has the ends of their subterms
pub record Accepted (rs : List Record) (f : ℕ) (ends : List ℕ) : Type 0 where
  pub right : (g : ℕ) → g < f → wrong_at rs g ≡ false
  pub ends_are : (g i : ℕ) → g < f → i < length (rule_of rs g) / 4 → get_or ends (first_node rs g + i) 0 ≡ end_at rs g i

-- r is the number of the first rule whose body is turned away, or none where all are accepted
pub record FirstWrong (rs : List Record) (rules : ℕ) (ends : List ℕ) (r : Option ℕ) : Type 0 where
  pub within : (f : ℕ) → r ≡ Some f → f < rules
  pub before : (f : ℕ) → r ≡ Some f → Accepted rs f ends
  pub wrong_there : (f : ℕ) → r ≡ Some f → wrong_at rs f ≡ true
  pub all : r ≡ None → Accepted rs rules ends

abbrev pub ReadsRules : List ℕ → List ℕ → Heads → ℕ → List ℕ → List ℕ → Option ℕ → Type 0
ReadsRules file index heads rules before after r =
    (rs : List Record) → Judged file index heads rules rs → nodes_in (payloads rule rs) ≤ length before → FirstWrong rs rules after r

-- What our own crates promise each other; nothing here has to be believed.
-- What the tests of bindings rest on. Section "Types and shrinking" of the scope: "One round tests every binding against the set as the
-- round began, then drops those that failed".
use Rattle.std.specs.Prelude.{ℕ, ◌+◌, ◌*◌, ◌<◌, ◌≤◌, ◌≡◌, Bool, true, List, T, length, get_or}
use Rattle.scheme.specs.Typing.{Binding}
use Rattle.scheme.specs.Flags.{is_kept, chosen}
use Rattle.scheme.specs.Acceptance.{holds_exactly}
use Rattle.casefile.specs.Records.{Record}
use Rattle.casefile.specs.Kinds.{Kind, count}
use Rattle.casefile.specs.Tables.{plan_of, automaton_of, bindings_of}
use Rattle.index.specs.layout.Layout.{max_states, max_bindings}
use Rattle.index.specs.Wholes.{Whole}
use Rattle.rules.specs.reading.RuleBodies.{rule_of, first_node}
use Rattle.marks.specs.briefs.Briefs.{Marked}
use Rattle.tables.specs.Facts.{binding_at}
use Rattle.tables.specs.Filling.{nodes_from, words_for, TableIs}
use Rattle.rounds.specs.declared.tested.Sizes.{Sizes}

-- how many bindings a file has
abbrev pub total : List Record → ℕ
total rs = count Kind.binding rs

-- the test of a binding against a set, for the plan and the automaton of a file
abbrev pub test_of : List Record → List Binding → Binding → Bool
test_of rs = holds_exactly (automaton_of rs) (plan_of rs)

-- binding b holds where the bindings with a flag are kept
abbrev pub Holds : List Record → List ℕ → ℕ → Type 0
Holds rs flags b = T (test_of rs (chosen flags (bindings_of rs)) (binding_at rs b))

-- the tables of a file
pub record Frame (rs : List Record) (t firsts : List ℕ) (sizes : Sizes) : Type 0 where
  pub table : TableIs rs t
  pub rules_all : count Kind.rule rs ≡ count Kind.nonterminal rs
  pub named : (b : ℕ) → b < total rs → (binding_at rs b).nonterminal < count Kind.nonterminal rs
  pub bodies : (f : ℕ) → f < count Kind.rule rs → Whole (rule_of rs f)
  pub firsts_are : (f : ℕ) → f < count Kind.rule rs → get_or firsts f 0 ≡ first_node rs f
  pub nodes_from_law : sizes.nodes ≡ nodes_from rs
  pub goals_are : sizes.goals ≡ count Kind.type rs + max_states
  pub bindings_are : sizes.bindings ≡ total rs
  pub few_bindings : total rs ≤ max_bindings

-- binding c is noted for binding b: b is marked in the column of c, whose brief stands behind all columns
abbrev pub Noted : List Record → List ℕ → ℕ → ℕ → Type 0
Noted rs users b c = Marked users (c * words_for rs) (total rs * words_for rs + c) b

-- binding b holds whichever bindings are kept, so long as those are that are kept now and noted for it
abbrev pub Rests : List Record → List ℕ → List ℕ → ℕ → Type 0
Rests rs kept users b = (flags : List ℕ) → ((c : ℕ) → c < total rs → is_kept (get_or kept c 0) ≡ true → Noted rs users b c → is_kept (get_or flags c 0) ≡ true) → Holds rs flags b

-- there is room for the notes
abbrev pub Room : List Record → List ℕ → Type 0
Room rs users = total rs * words_for rs + total rs ≤ length users

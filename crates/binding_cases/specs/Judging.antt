-- What our own crates promise each other; nothing here has to be believed.
-- The outcome of a binding case. Sections "Types and shrinking" and "Verdicts" of the scope.
use Rattle.std.specs.Prelude.{ℕ, ◌+◌, ◌*◌, ◌<◌, ◌≤◌, ◌≡◌, Bool, ◌&&◌, List, ◌++◌, length, get_or, drop}
use Rattle.std.proofs.Math.Option.{none}
use Rattle.scheme.specs.Lists.{any}
use Rattle.scheme.specs.Flags.{is_kept, chosen}
use Rattle.scheme.specs.Acceptance.{is_start}
use Rattle.casefile.specs.Records.{Record}
use Rattle.casefile.specs.Kinds.{Kind, payloads, count}
use Rattle.casefile.specs.Tables.{plan_of, automaton_of, bindings_of}
use Rattle.casefile.specs.Refusals.{refuse_whole}
use Rattle.casefile.specs.Promises.{Passed}
use Rattle.casefile.specs.BindingCases.{Shrunk, shrunk}
use Rattle.index.specs.layout.Layout.{max_states, ends_size, index_size, rows_size, place_limit, test_users, test_answers, test_cells}
use Rattle.index.specs.entries.Known.{Known}
use Rattle.rules.specs.reading.RuleBodies.{nodes_in}
use Rattle.intake.specs.plan.PlanTests.{EndsAre}
use Rattle.tables.specs.Facts.{binding_at, TypesAre, BindingsAre}
use Rattle.tables.specs.Filling.{table_for, words_for, FillsSets}
use Rattle.rounds.specs.tested.Tested.{Placed}

-- binding b is kept by its flag and is the start binding
abbrev pub starts_at : List Record → List ℕ → ℕ → Bool
starts_at rs flags b = is_kept (get_or flags b 0) && is_start (binding_at rs b)

-- r says so
pub record StartsAt (t flags : List ℕ) (b : ℕ) (r : Bool) : Type 0 where
  pub answer : (rs : List Record) → TypesAre rs t → BindingsAre rs t → b < count Kind.binding rs → r ≡ starts_at rs flags b

-- r says whether a binding that is kept by its flag is the start binding, where there are n bindings
pub record FindsStart (t flags : List ℕ) (n : ℕ) (r : Bool) : Type 0 where
  pub answer : (rs : List Record) → TypesAre rs t → BindingsAre rs t → n ≡ count Kind.binding rs → r ≡ any is_start (chosen flags (bindings_of rs))

-- the kept bindings, and the lent flags afterwards: "bytes past the count are untouched"
pub record IsShrunk (s : Shrunk) (lent flags : List ℕ) (accepted : Bool) (kept total rounds : ℕ) : Type 0 where
  pub accepted_is : accepted ≡ s.accepted
  pub kept_is : kept ≡ s.kept
  pub total_is : total ≡ s.total
  pub rounds_are : rounds ≡ s.rounds
  pub flags_are : flags ≡ s.flags ++ drop (length s.flags) lent

-- where users and answers begin is written, and the sets of candidates stay
pub record Places (users answers : ℕ) (r r' : List ℕ) : Type 0 where
  pub long : length r' ≡ length r
  pub users_at : test_cells ≤ length r → get_or r' test_users 0 ≡ users
  pub answers_at : test_cells ≤ length r → get_or r' test_answers 0 ≡ answers
  pub sets : drop test_cells r' ≡ drop test_cells r

-- all bindings are entered in the sets of candidates, and users and answers begin where they did
pub record Fills (t : List ℕ) (bindings words : ℕ) (r r' : List ℕ) : Type 0 where
  pub placed : Placed r r'
  pub filled : test_cells ≤ length r → FillsSets t bindings words (drop test_cells r) (drop test_cells r')

-- the tables that are lent have room for a file, and those that must be are empty: what is read has the numbers of the test and then the
-- sets of candidates, what is written has hints and then users, with a brief each
pub record Lent (rs : List Record) (firsts t r w : List ℕ) (hints : ℕ) : Type 0 where
  pub firsts_long : rows_size ≤ length firsts
  pub table_long : table_for rs ≤ length t
  pub read_long : test_cells + (count Kind.type rs + max_states) * words_for rs ≤ length r
  pub write_long : hints + (count Kind.binding rs * words_for rs + count Kind.binding rs) ≤ length w
  pub few_hints : hints < place_limit
  pub no_numbers : (i : ℕ) → get_or r i 0 ≡ 0
  pub no_answers : (i : ℕ) → get_or w i 0 ≡ 0

-- the promise, for the tables of a file that is not refused
pub record JudgesBindings (file index counts ends firsts t r w : List ℕ) (hints : ℕ) (lent flags : List ℕ) (accepted : Bool) (kept total rounds : ℕ) : Type 0 where
  pub judged : (lens : List ℕ) (rs : List Record) → Known file index lens counts rs → Passed rs → EndsAre rs ends → refuse_whole rs (length lent) ≡ none
      → index_size ≤ length index → nodes_in (payloads Kind.rule rs) ≤ ends_size → Lent rs firsts t r w hints
      → IsShrunk (shrunk (automaton_of rs) (plan_of rs) (bindings_of rs)) lent flags accepted kept total rounds

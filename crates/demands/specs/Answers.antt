-- The answer for every file and every number of lent flags, and the flags afterwards. Section "Verdicts" of the scope.
use Rattle.std.specs.Prelude.{ℕ, List, [], ◌++◌, length, drop}
use Rattle.scheme.specs.Lists.{choose◌then◌else◌}
use Rattle.casefile.specs.Refusals.{Refusal}
use Rattle.casefile.specs.Tables.{plan_of, automaton_of, bindings_of}
use Rattle.casefile.specs.Cases.{Case, refused_case, binding_case, path_case, case_of}
use Rattle.casefile.specs.PathCases.{PathAnswer, refuted_path, refused_path, replayed}
use Rattle.casefile.specs.BindingCases.{Shrunk, shrunk}

-- the four lines that are printed, with their numbers
pub data Answer : Type 0 where
  -- kept, total, rounds
  proved : ℕ → ℕ → ℕ → Answer
  unproved : ℕ → ℕ → ℕ → Answer
  -- letters, state, constructor
  refuted : ℕ → ℕ → ℕ → Answer
  -- number, place
  refused : ℕ → ℕ → Answer

-- an answer, and the flags that are written with it
pub record Outcome : Type 0 where
  pub answer : Answer
  pub written : List ℕ

-- "A refusal .. changes no flag"
unfoldable pub refusal : Refusal → Outcome
refusal r = record { answer = refused r.number r.place; written = [] }

-- "`proved` (the start nonterminal with the state type 0 is kept) or `unproved`"; a flag for each binding
unfoldable pub binding_outcome : Shrunk → Outcome
binding_outcome s =
    record {
      answer = choose s.accepted then proved s.kept s.total s.rounds else unproved s.kept s.total s.rounds;
      written = s.flags;
    }

-- "`refuted` with letters, state and constructor, flags untouched"
unfoldable pub path_outcome : PathAnswer → Outcome
path_outcome (refuted_path n q c) = record { answer = refuted n q c; written = [] }
path_outcome (refused_path r) = refusal r

-- the outcome of each case
unfoldable pub outcome_of : Case → Outcome
outcome_of (refused_case r) = refusal r
outcome_of (binding_case rs) = binding_outcome (shrunk (automaton_of rs) (plan_of rs) (bindings_of rs))
outcome_of (path_case rs letters) = path_outcome (replayed (automaton_of rs) (plan_of rs) letters)

-- the outcome for the bytes of a file, where `flags` flag bytes are lent
unfoldable pub answer : List ℕ → ℕ → Outcome
answer s flags = outcome_of (case_of s flags)

-- the lent flags afterwards: those written, "bytes past the count are untouched"
unfoldable pub flags_after : List ℕ → List ℕ → List ℕ
flags_after s lent = let w = (answer s (length lent)).written in w ++ drop (length w) lent

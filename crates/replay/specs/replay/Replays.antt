-- What our own crates promise each other; nothing here has to be believed.
-- What the functions that replay a path promise: the answer of the definitions.
use Rattle.std.specs.Prelude.{ℕ, ◌+◌, ◌*◌, ◌<◌, ◌≤◌, ◌≡◌, List, [], length, get_or, Result, Ok, Err}
use Rattle.std.proofs.Math.Option.{none}
use Rattle.scheme.specs.Terms.{Term}
use Rattle.scheme.specs.Replay.{arrived, stuck}
use Rattle.casefile.specs.Records.{Record}
use Rattle.casefile.specs.Kinds.{Kind, payloads, count}
use Rattle.casefile.specs.Tables.{plan_of, automaton_of}
use Rattle.casefile.specs.Refusals.{refuse_whole}
use Rattle.casefile.specs.Promises.{Passed}
use Rattle.index.specs.layout.Layout.{max_letters, path_at}
use Rattle.index.specs.entries.Known.{Known}
use Rattle.index.specs.lookup.Lookup.{entry_of}
use Rattle.replay.specs.letters.Letters.{Replaying, Holding}
use Rattle.replay.specs.declared.letters.Held.{Held}
use Rattle.casefile.specs.PathCases.{PathAnswer, refuted_path, refused_path, path_answer, replayed}
use Rattle.records.specs.refusal.Numbers.{refusal_as}
use Rattle.records.specs.declared.refusal.Refusal.{Refusal}
use Rattle.replay.specs.declared.replay.Refuted.{Refuted}

-- each answer as one of the definitions: letters, state and constructor, or the scope's number and place
unfoldable pub path_as : Result Refuted Refusal → PathAnswer
path_as (Ok r) = refuted_path r.letters r.state r.constructor
path_as (Err r) = refused_path (refusal_as r)

-- the answer behind the last letter, on the term held
pub record Arrives (table : List (List (List ℕ))) (constructors : ℕ) (held : Held) (n : ℕ) (r : Result Refuted Refusal) : Type 0 where
  pub answer : (file index : List ℕ) (rules : ℕ) (rs : List Record) → Replaying file index rules constructors table rs → (cells : List ℕ) (top : ℕ) (t : Term) (q : ℕ) → Holding file cells top held t q
      → path_as r ≡ path_answer (arrived n q (stuck (automaton_of rs) t q))

-- the answer to a path, where there is a block of cells for the start symbol and one for each letter
pub record Runs (file index : List ℕ) (rules constructors : ℕ) (table : List (List (List ℕ))) (path cells : List ℕ) (r : Result Refuted Refusal) : Type 0 where
  pub answer : (rs : List Record) → Replaying file index rules constructors table rs → length path * 8 + 8 ≤ length cells → length path ≤ max_letters
      → path_as r ≡ replayed (automaton_of rs) (plan_of rs) path

-- the answer to the path of a file, whose records all passed and which 8 to 12 do not refuse
pub record ReplaysPath (file index counts : List ℕ) (r : Result Refuted Refusal) : Type 0 where
  pub answer : (lens : List ℕ) (rs : List Record) (flags : ℕ) → Known file index lens counts rs → Passed rs → refuse_whole rs flags ≡ none → 0 < count Kind.path rs
      → path_as r ≡ replayed (automaton_of rs) (plan_of rs) (get_or (payloads Kind.path rs) 0 [])

-- r is the answer to the path of a file where so many cells are enough for all its letters
pub record Attempts (file index counts : List ℕ) (cells : ℕ) (r : Result Refuted Refusal) : Type 0 where
  pub answered : (length (entry_of file index path_at) ≤ max_letters → length (entry_of file index path_at) * 8 + 8 ≤ cells) → ReplaysPath file index counts r

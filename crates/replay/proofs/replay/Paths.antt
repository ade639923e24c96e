-- The path of a file, by its tables.
use Prim.Native.Nat.{ℕ, ◌+◌, ◌*◌, ◌<◌, ◌≤◌}
use native.Mathlib.Omega.{arith}
use mathlib.Core.Path.{◌≡◌, sym, ap, subst, ◌∙◌}
use mathlib.Core.List.{List, []}
use borrow.Author.Tests.{ltb-false}
use lib.Dec.{ltb}
use lib.ListN.{length, get_or}
use Rattle.scheme.proofs.Lists.{or_false}
use Rattle.casefile.specs.Records.{Record}
use Rattle.casefile.specs.Kinds.{Kind, number, payloads, count}
use Rattle.casefile.specs.Tables.{plan_of, automaton_of}
use Rattle.casefile.specs.Refusals.{too_many, too_large}
use Rattle.casefile.proofs.Passed.{entry}
use Rattle.casefile.specs.Promises.{Passed}
use Rattle.casefile.proofs.TypeTable.{count_payloads}
use Rattle.index.specs.layout.Layout.{max_letters, path_at}
use Rattle.index.specs.entries.Index.{Indexed}
use Rattle.index.specs.lookup.Lookup.{entry_of}
use Rattle.index.proofs.lookup.Found.{entry_there}
use Rattle.transitions.specs.table.Moves
use Rattle.index.proofs.Wholes.{whole_bodies}
use Rattle.casefile.specs.PathCases.{replayed}
use Rattle.replay.specs.replay.Replays.{Runs, ReplaysPath, Attempts}
use Rattle.std.specs.Prelude.{Result}
use Rattle.records.specs.declared.refusal.Refusal.{Refusal}
use Rattle.replay.specs.declared.replay.Refuted.{Refuted}

-- "at most" 4,096 letters
path_short : {rs : List Record} → Passed rs → 0 < length (payloads Kind.path rs) → length (get_or (payloads Kind.path rs) 0 []) ≤ max_letters
unfolding too_large
path_short {rs} ok h =
    let e = entry ok Kind.path 0 h in
    let k = ltb-false max_letters (length e.payload) (or_false (too_many Kind.path (count Kind.path e.earlier)) (ltb max_letters (length e.payload)) e.passed_tests.few).1 in
    subst (λ (p : List ℕ). length p ≤ max_letters) (sym e.here) k

-- the answer of the run over the path of a file, by how many letters there are cells for
module _ {file index counts : List ℕ} {n rules constructors : ℕ} (en : n ≡ get_or counts 6 0) (er : rules ≡ get_or counts 4 0) (ec : constructors ≡ get_or counts 2 0)
    {table : List (List (List ℕ))} (holds : Moves.Holds file index n table) (path : List ℕ) (ep : path ≡ entry_of file index path_at) {cells : List ℕ} {r : Result Refuted Refusal}
    (run : Runs file index rules constructors table path cells r) where
  replay_answer : (length path ≤ max_letters → length path * 8 + 8 ≤ length cells) → ReplaysPath file index counts r
  unfolding number
  replay_answer room =
      record {
        answer = λ lens rs flags known ok whole some.
            let there : Indexed file index Kind.path (get_or counts 9 0) rs = known.entries Kind.path in
            let e : path ≡ get_or (payloads Kind.path rs) 0 [] = ep ∙ entry_there there 0 (let c = there.counted in omega arith) in
            let rules_there : Indexed file index Kind.rule rules rs = subst (λ m. Indexed file index Kind.rule m rs) (sym er) (known.entries Kind.rule) in
            let transitions_there : Indexed file index Kind.transition n rs = subst (λ m. Indexed file index Kind.transition m rs) (sym en) (known.entries Kind.transition) in
            let few_rules = known.fits Kind.rule in
            let few_constructors = known.fits Kind.constructor in
            let few-transitions = known.fits Kind.transition in
            let short : length path ≤ max_letters = subst (λ (p : List ℕ). length p ≤ max_letters) (sym e) (path_short ok (let l = count_payloads Kind.path rs in omega arith)) in
            run.answer rs
            (record {
              passed = ok;
              flags = flags;
              whole = whole;
              bodies = whole_bodies ok flags whole rules_there;
              few_rules = omega arith;
              constructors_there = subst (λ m. Indexed file index Kind.constructor m rs) (sym ec) (known.entries Kind.constructor);
              few_constructors = omega arith;
              table_is = holds rs ok transitions_there (omega arith);
            })
            (room short) short ∙ ap (replayed (automaton_of rs) (plan_of rs)) e;
      }

  -- with so many cells
  pub attempt : (n : ℕ) → length cells ≡ n → Attempts file index counts n r
  attempt n e = record { answered = λ enough. replay_answer (λ few. let room = enough (subst (λ (p : List ℕ). length p ≤ max_letters) ep few) in let same = ap (length {A = ℕ}) ep in omega arith) }

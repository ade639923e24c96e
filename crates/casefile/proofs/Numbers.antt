-- Every refusal has a number from 1 to 15: those of a file's case by the tests of specs/Refusals.antt, those of a path by specs/PathCases.antt.
use Prim.Native.Nat.{ℕ, ◌+◌, ◌≤◌}
use native.Mathlib.Omega.{arith}
use mathlib.Core.Path.{◌≡◌, subst}
use mathlib.Core.Bool.{Bool, true, false, ◌&&◌, ◌||◌, not}
use mathlib.Core.List.{List, [], ◌∷◌, ◌++◌}
use mathlib.Core.Option.{Option, none, some}
use lib.Dec.{eqb, ltb}
use lib.ListN.{length}
use Rattle.scheme.specs.Lists.{choose◌then◌else◌}
use Rattle.scheme.specs.Sorts.{Sort}
use Rattle.scheme.specs.Reduction.{Plan, start}
use Rattle.scheme.specs.Typing.{Automaton, Binding}
use Rattle.scheme.specs.Replay.{Ending, refutes, lost, outgrown, elsewhere, replay}
use Rattle.casefile.specs.Records.{Record, Walk, end, cut, next, records_of}
use Rattle.casefile.specs.Kinds.{Kind, kind_of, of_kind, payloads, count}
use Rattle.casefile.specs.Tables.{arities_of, signatures_of, bindings_of}
use Rattle.casefile.specs.Refusals.{Refusal, Test, refuse◌at◌when◌, first, too_long, wrong_length, too_many, too_large, out_of_range, misplaced, refuse_as, refuse_kind, last_kind, refuse_record, wrong_bodies, wrong_start, misfits, refuse_whole}
use Rattle.casefile.specs.Cases.{Case, refused_case, binding_case, path_case, unless_refused, accepted_case, case_from, case_of}
use Rattle.casefile.specs.PathCases.{PathAnswer, refuted_path, refused_path, node_limit, path_answer, replayed}

-- a number of the table of refusals
abbrev pub InTable : ℕ → Type 0
InTable n = (1 ≤ n) × (n ≤ 15)

-- a refusal, where there is one, has such a number
Numbered : Option Refusal → Type 0
Numbered none = Unit {0}
Numbered (some r) = InTable r.number

NumberedCase : Case → Type 0
NumberedCase (refused_case r) = InTable r.number
NumberedCase (binding_case rs) = Unit {0}
NumberedCase (path_case rs ls) = Unit {0}

NumberedPath : PathAnswer → Type 0
NumberedPath (refuted_path n q c) = Unit {0}
NumberedPath (refused_path r) = InTable r.number

-- so has each test of a list
NumberedTests : List Test → Type 0
NumberedTests [] = Unit {0}
NumberedTests ((refuse n at p when b) ∷ ts) = InTable n × NumberedTests ts

first_numbered : (ts : List Test) → NumberedTests ts → Numbered (first ts)
unfolding first Numbered NumberedTests
first_numbered [] w = tt
first_numbered ((refuse n at p when b) ∷ ts) (h, w) = go b (first_numbered ts w)
  where
    go : (b : Bool) → Numbered (first ts) → Numbered (choose b then some (record { number = n; place = p }) else first ts)
    go true ih = h
    go false ih = ih

both_numbered : (xs ys : List Test) → NumberedTests xs → NumberedTests ys → NumberedTests (xs ++ ys)
unfolding NumberedTests
both_numbered [] ys v w = w
both_numbered ((refuse n at p when b) ∷ xs) ys (h, v) w = (h, both_numbered xs ys v w)

bodies_numbered : (arities : List ℕ) (sigs ss : List Sort) (rs : List Record) → NumberedTests (wrong_bodies arities sigs ss rs)
unfolding wrong_bodies NumberedTests
bodies_numbered arities sigs [] rs = tt
bodies_numbered arities sigs (s ∷ ss) [] = tt
bodies_numbered arities sigs (s ∷ ss) (r ∷ rs) = (omega arith, bodies_numbered arities sigs ss rs)

start_numbered : (rs : List Record) → NumberedTests (wrong_start rs)
unfolding wrong_start NumberedTests
start_numbered [] = tt
start_numbered (r ∷ rs) = (omega arith, tt)

misfits_numbered : (sigs : List Sort) (bs : List Binding) (rs : List Record) → NumberedTests (misfits sigs bs rs)
unfolding misfits NumberedTests
misfits_numbered sigs [] rs = tt
misfits_numbered sigs (b ∷ bs) [] = tt
misfits_numbered sigs (b ∷ bs) (r ∷ rs) = (omega arith, misfits_numbered sigs bs rs)

whole_numbered : (rs : List Record) (flags : ℕ) → Numbered (refuse_whole rs flags)
unfolding refuse_whole NumberedTests
whole_numbered rs flags =
    let sigs = signatures_of rs in
    let plan = wrong_start (of_kind Kind.nonterminal rs) ++ wrong_bodies (arities_of rs) sigs sigs (of_kind Kind.rule rs) in
    let offers = (refuse 10 at 0 when ltb 0 (count Kind.type rs + count Kind.binding rs) && ltb 0 (count Kind.path rs)) ∷ misfits sigs (bindings_of rs) (of_kind Kind.binding rs) in
    let last = (refuse 12 at 0 when ltb flags (count Kind.binding rs)) ∷ [] in
    first_numbered ((refuse 8 at 0 when eqb (count Kind.states rs) 0 || eqb (count Kind.nonterminal rs) 0 || not (eqb (count Kind.rule rs) (count Kind.nonterminal rs))) ∷ (plan ++ offers ++ last)) (
      omega arith,
      both_numbered (plan ++ offers) last
          (both_numbered plan offers
          (both_numbered (wrong_start (of_kind Kind.nonterminal rs)) (wrong_bodies (arities_of rs) sigs sigs (of_kind Kind.rule rs)) (start_numbered (of_kind Kind.nonterminal rs)) (bodies_numbered (arities_of rs) sigs sigs (of_kind Kind.rule rs)))
          (omega arith, misfits_numbered sigs (bindings_of rs) (of_kind Kind.binding rs)))
          (omega arith, tt),
    )

kind_numbered : (rs : List Record) (r : Record) (x : Option Kind) → Numbered (refuse_kind rs r x)
unfolding refuse_kind refuse_as Numbered NumberedTests
kind_numbered rs r none = omega arith
kind_numbered rs r (some k) =
    let p = r.payload in
    first_numbered (
    (refuse 4 at r.place when wrong_length k (length p)) ∷
    (refuse 5 at r.place when too_many k (count k rs) || too_large rs p k) ∷
    (refuse 6 at r.place when out_of_range rs p k) ∷
    (refuse 7 at r.place when misplaced rs p k) ∷ [])
    (omega arith, (omega arith, (omega arith, (omega arith, tt))))

record_numbered : (rs : List Record) (r : Record) → Numbered (refuse_record rs r)
unfolding refuse_record Numbered
record_numbered rs r = go (ltb r.kind (last_kind rs)) (kind_numbered rs r (kind_of r.kind))
  where
    go : (b : Bool) → Numbered (refuse_kind rs r (kind_of r.kind)) → Numbered (choose b then some (record { number = 3; place = r.place }) else refuse_kind rs r (kind_of r.kind))
    go true w = omega arith
    go false w = w

accepted_numbered : (rs : List Record) (ps : List (List ℕ)) → NumberedCase (accepted_case rs ps)
unfolding accepted_case NumberedCase
accepted_numbered rs [] = tt
accepted_numbered rs (l ∷ ps) = tt

unless_numbered : (x : Option Refusal) (c : Case) → Numbered x → NumberedCase c → NumberedCase (unless_refused x c)
unfolding unless_refused Numbered NumberedCase
unless_numbered none c v w = w
unless_numbered (some r) c v w = v

from_numbered : (flags : ℕ) (w : Walk) (rs : List Record) → NumberedCase (case_from flags w rs)
unfolding case_from NumberedCase
from_numbered flags end rs = unless_numbered (refuse_whole rs flags) (accepted_case rs (payloads Kind.path rs)) (whole_numbered rs flags) (accepted_numbered rs (payloads Kind.path rs))
from_numbered flags (cut p) rs = omega arith
from_numbered flags (next r w) rs = unless_numbered (refuse_record rs r) (case_from flags w (rs ++ (r ∷ []))) (record_numbered rs r) (from_numbered flags w (rs ++ (r ∷ [])))

numbered : (s : List ℕ) (flags : ℕ) → NumberedCase (case_of s flags)
unfolding case_of NumberedCase
numbered s flags = go (too_long s) (from_numbered flags (records_of s) [])
  where
    go : (b : Bool) → NumberedCase (case_from flags (records_of s) []) → NumberedCase (choose b then refused_case (record { number = 1; place = 0 }) else case_from flags (records_of s) [])
    go true w = omega arith
    go false w = w

-- the refusals of a file's case
pub case_numbered : (s : List ℕ) (flags : ℕ) (r : Refusal) → case_of s flags ≡ refused_case r → InTable r.number
unfolding NumberedCase
case_numbered s flags r e = subst NumberedCase e (numbered s flags)

-- the refusals of a path
pub path_numbered : (aut : Automaton) (plan : Plan) (letters : List ℕ) (r : Refusal) → replayed aut plan letters ≡ refused_path r → InTable r.number
unfolding replayed path_answer NumberedPath
path_numbered aut plan letters r e = subst NumberedPath e (by (replay node_limit aut plan 0 letters start 0))
  where
    by : (x : Ending) → NumberedPath (path_answer x)
    by (refutes n q c) = tt
    by (lost n) = omega arith
    by (outgrown n) = omega arith
    by (elsewhere n) = omega arith

-- The letters of a path one after another: what is left of the replay, and its answer.
use Prim.Native.Nat.{ℕ, suc, ◌+◌, ◌*◌, ◌<◌, ◌≤◌}
use native.Mathlib.Omega.{arith}
use mathlib.Core.Path.{◌≡◌, refl, sym, ap, subst, ◌∙◌}
use mathlib.Core.Bool.{true, false, true≢false}
use mathlib.Core.List.{List, [], ◌∷◌}
use mathlib.Core.Option.{Option, none, some}
use borrow.Author.Tests.{eq-eqb, lt-ltb}
use mathlib.Core.Logic.{inl, inr}
use lib.ListN.{length, get_or, drop, drop_of_length-le}
use lib.Seq.{drop-cons}
use Rattle.std.specs.Prelude.{Option as Maybe, None, Some, is_some, Result, Ok, Err, MatchResult, IsErrAnd, is_ok}
use Rattle.std.proofs.lemmas.Result.{err_from_is_err_and}
use Rattle.scheme.specs.Lists.{choose◌then◌else◌}
use Rattle.scheme.specs.Sorts.{o}
use Rattle.scheme.specs.Sorting.{sort_of}
use Rattle.scheme.specs.Terms.{con, nt, Term, node, Terms, []ᵗ, nodes}
use Rattle.scheme.specs.Reduction.{start}
use Rattle.scheme.specs.Replay.{follow, unless, stuck, Ending, outgrown, arrived, exceeds, followed, replay}
use Rattle.scheme.specs.Replay
use Rattle.casefile.specs.Records.{Record}
use Rattle.casefile.specs.Tables.{arities_of, transitions_of, targets_at, plan_of, automaton_of}
use Rattle.casefile.specs.Sorted.{closed_sorts}
use Rattle.casefile.specs.PathCases.{refuted_path, refused_path, path_answer, replayed}
use Rattle.casefile.proofs.Bodies.{start_sorted}
use Rattle.casefile.proofs.Replays.{follow_sorted}
use Rattle.records.specs.refusal.Numbers.{number_of}
use Rattle.records.specs.declared.refusal.Fault.{Fault}
use Rattle.records.specs.declared.refusal.Fault.TheVariants.{NotStuck}
use Rattle.records.specs.declared.refusal.Refusal.{Refusal}
use Rattle.index.specs.layout.Layout.{max_letters, max_term}
use Rattle.transitions.specs.rows.Rows.{targets_of, IsRow}
use Rattle.transitions.proofs.rows.Rows.{constructor_count}
use Rattle.closures.specs.heads.Heads.{head_as}
use Rattle.closures.specs.declared.heads.Head.{Head as Code}
use Rattle.closures.specs.declared.heads.Head.TheVariants.{Constructor, Nonterminal, Parameter}
use Rattle.closures.proofs.closures.Closures.{frame_none}
use Rattle.replay.specs.letters.Letters.{Replaying, Holding, LeadsTo, Follows}
use Rattle.replay.specs.declared.letters.Held.{Held}
use Rattle.replay.proofs.letters.Letters.{held_is}
use Rattle.replay.specs.replay.Replays.{path_as, Arrives, Runs}
use Rattle.replay.specs.declared.replay.Refuted.{Refuted}

-- what a letter gave, by what is made of it: the term, or the fault with its place
pub letter_done : (step : Result Held Fault) (next : Held) (P : Fault → Type 0) → MatchResult step (λ x. ◌≡◌ {A = Result Held Refusal} (Ok next) (Ok x)) P → true ≡ is_ok step → step ≡ Ok next
letter_done (Ok x) next P e t = cc
letter_done (Err f) next P e t = absurd (true≢false t)

pub letter_stopped : (step : Result Held Fault) (P : Held → Type 0) (Q : Fault → Type 0) → MatchResult step P Q → false ≡ is_ok step → (f : Fault) × (step ≡ Err f) × Q f
letter_stopped (Ok x) P Q e t = absurd (true≢false (sym t))
letter_stopped (Err f) P Q e t = (f, refl, e)

pub refused_with : (r : Result Refuted Refusal) (d e : Refusal) → IsErrAnd r (λ y. y ≡ d) → d ≡ e → r ≡ Err e
refused_with r d e h same =
    let (y, is, at) = err_from_is_err_and r h in
    is ∙ ap Err (at ∙ same)

-- what a test says of a row
some_by : {A : Type 0} (there : Maybe A) → true ≡ is_some there → (x : A) × (there ≡ Some x)
some_by None e = absurd (true≢false e)
some_by (Some x) e = (x, refl)

none_by : {A : Type 0} (there : Maybe A) → false ≡ is_some there → there ≡ None
none_by None e = refl
none_by (Some x) e = absurd (true≢false (sym e))

-- behind the last letter
module _ (table : List (List (List ℕ))) (constructors : ℕ) (held : Held) (n : ℕ) where
  nowhere : (rs : List Record) (q : ℕ) (ts : Terms) (h : Code) → ((c : ℕ) → h ≡ Constructor c → ⊥) → stuck (automaton_of rs) (node (head_as h) ts) q ≡ none
  unfolding stuck
  nowhere rs q ts (Constructor c) k = absurd (k c refl)
  nowhere rs q ts (Nonterminal f) k = refl
  nowhere rs q ts (Parameter i) k = refl

  pub arrive_not : ((c : ℕ) → held.head ≡ Constructor c → ⊥) → Arrives table constructors held n (Err (record { fault = NotStuck; place = n }))
  unfolding path_as path_answer arrived
  arrive_not k =
      record {
        answer = λ file index rules rs s cells top t q w.
            ap (λ o. path_answer (arrived n q o)) (sym (ap (λ u. stuck (automaton_of rs) u q) (held_is w held.head refl) ∙ nowhere rs q w.arguments held.head k));
      }

  module _ (c : ℕ) (k : held.head ≡ Constructor c) (row : Maybe (List ℕ)) (is_row : IsRow table constructors held.state c row) where
    by_head : (rs : List Record) (q : ℕ) (ts : Terms) → stuck (automaton_of rs) (node (con c) ts) q ≡ unless (targets_at (transitions_of rs) q c) c
    unfolding stuck automaton_of
    by_head rs q ts = refl

    -- the targets of the constructor in front, by the row
    stuck_by : (rs : List Record) (file index : List ℕ) (rules : ℕ) → Replaying file index rules constructors table rs → (cells : List ℕ) (top : ℕ) (t : Term) (q : ℕ) → Holding file cells top held t q
        → stuck (automaton_of rs) t q ≡ unless (targets_of (get_or (arities_of rs) c 0) row) c
    stuck_by rs file index rules s cells top t q w =
        let x = is_row.targets rs s.passed s.table_is (constructor_count rs s.constructors_there) s.few_constructors in
        ap (λ u. stuck (automaton_of rs) u q) (held_is w (Constructor c) k) ∙ by_head rs q w.arguments
        ∙ ap (λ p. unless (targets_at (transitions_of rs) p c) c) (sym w.state_is)
        ∙ ap (λ o. unless o c) (sym x)

    pub arrive_goes : true ≡ is_some row → Arrives table constructors held n (Err (record { fault = NotStuck; place = n }))
    unfolding path_as path_answer arrived unless targets_of
    arrive_goes e =
        let (targets, h) = some_by row e in
        record {
          answer = λ file index rules rs s cells top t q w.
              let a : unless (targets_of (get_or (arities_of rs) c 0) row) c ≡ none = ap (λ r. unless (targets_of (get_or (arities_of rs) c 0) r) c) h in
              ap (λ o. path_answer (arrived n q o)) (sym (stuck_by rs file index rules s cells top t q w ∙ a));
        }

    pub arrive_stuck : false ≡ is_some row → Arrives table constructors held n (Ok (record { letters = n; state = held.state; constructor = c }))
    unfolding path_as path_answer arrived unless targets_of
    arrive_stuck e =
        let h = none_by row e in
        record {
          answer = λ file index rules rs s cells top t q w.
              let a : unless (targets_of (get_or (arities_of rs) c 0) row) c ≡ some c = ap (λ r. unless (targets_of (get_or (arities_of rs) c 0) r) c) h in
              ap (λ p. refuted_path n p c) w.state_is ∙ ap (λ o. path_answer (arrived n q o)) (sym (stuck_by rs file index rules s cells top t q w ∙ a));
        }

-- a term is held that the letters from number i on lead from to what all lead to
pub record Onward (file : List ℕ) (path cells : List ℕ) (held : Held) (i : ℕ) (rs : List Record) : Type 0 where
  pub term : Term
  pub state : ℕ
  pub holding : Holding file cells (i + 1) held term state
  pub sorted : sort_of (closed_sorts rs) term ≡ some o
  pub same : replay max_term (automaton_of rs) (plan_of rs) i (drop i path) term state ≡ replay max_term (automaton_of rs) (plan_of rs) 0 path start 0

-- while the letters are followed
pub record Running (file index : List ℕ) (rules constructors : ℕ) (table : List (List (List ℕ))) (path cells₀ cells : List ℕ) (held : Held) (i : ℕ) : Type 0 where
  pub up_to : i ≤ length path
  pub long : length cells ≡ length cells₀
  pub onward : (rs : List Record) → Replaying file index rules constructors table rs → length path * 8 + 8 ≤ length cells₀ → length path ≤ max_letters → Onward file path cells held i rs

abbrev pub start_held : Held
start_held = record { head = Nonterminal 0; frame = record { block = 0; count = 0 }; state = 0 }

-- the start symbol is held
start_held_law : (file cells : List ℕ) → Holding file cells 1 start_held start 0
unfolding nodes
start_held_law file cells = record { head = nt 0; arguments = []ᵗ; is = refl; head_is = refl; frame = frame_none 0; lower = omega arith; size = omega arith; state_is = refl }

pub run_start : (file index : List ℕ) (rules constructors : ℕ) (table : List (List (List ℕ))) (path cells : List ℕ) → Running file index rules constructors table path cells cells start_held 0
run_start file index rules constructors table path cells =
    record {
      up_to = omega arith;
      long = refl;
      onward = λ rs s room short. record { term = start; state = 0; holding = start_held_law file cells; sorted = start_sorted rs s.flags s.whole; same = refl };
    }

module _ {file index : List ℕ} {rules constructors : ℕ} {table : List (List (List ℕ))} {path cells₀ cells : List ℕ} {held : Held} {i : ℕ} (w : Running file index rules constructors table path cells₀ cells held i) where
  module _ (h : i < length path) (letter : ℕ) (el : letter ≡ get_or path i 0) (cells' : List ℕ) (step : Result Held Fault) (i' : ℕ) (ei : i' ≡ i + 1) (follows : Follows file index rules constructors table cells cells' held letter i' step) where
    -- the letters from number i on are this one and the others
    one_more : (rs : List Record) (t : Term) (q : ℕ) → replay max_term (automaton_of rs) (plan_of rs) i (drop i path) t q
        ≡ followed max_term i letter (λ a. replay max_term (automaton_of rs) (plan_of rs) (i + 1) (drop (suc i) path) a.term a.state) (follow (automaton_of rs) (plan_of rs) letter t q)
    unfolding replay
    one_more rs t q = ap (λ l. replay max_term (automaton_of rs) (plan_of rs) i l t q) (drop-cons path i 0 h ∙ ap (◌∷ drop (suc i) path) (sym el))

    reached : (rs : List Record) → Replaying file index rules constructors table rs → length path * 8 + 8 ≤ length cells₀ → length path ≤ max_letters → (x : Onward file path cells held i rs)
        → LeadsTo file cells' i' letter (follow (automaton_of rs) (plan_of rs) letter x.term x.state) step
    reached rs s room short x =
        follows.leads rs s x.term x.state
        (record { few = omega arith; room = let l = w.long in omega arith; sorted = x.sorted; holding = subst (λ n. Holding file cells n held x.term x.state) (sym ei) x.holding })

    pub run_next : (next : Held) → step ≡ Ok next → Running file index rules constructors table path cells₀ cells' next i'
    unfolding followed LeadsTo
    run_next next es =
        record {
          up_to = omega arith;
          long = follows.long ∙ w.long;
          onward = λ rs s room short.
              let x = w.onward rs s room short in
              let (a, eo, limit, y) = subst (LeadsTo file cells' i' letter (follow (automaton_of rs) (plan_of rs) letter x.term x.state)) es (reached rs s room short x) in
              let e : i' ≡ suc i = omega arith in
              record {
                term = a.term;
                state = a.state;
                holding = y;
                sorted = follow_sorted rs s.flags s.passed s.whole letter x.term x.state a x.sorted eo;
                same =
                    ap (λ j. replay max_term (automaton_of rs) (plan_of rs) j (drop j path) a.term a.state) e
                    ∙ ap (λ j. replay max_term (automaton_of rs) (plan_of rs) j (drop (suc i) path) a.term a.state) (sym e ∙ ei)
                    ∙ sym (ap (λ b. choose b then outgrown i else replay max_term (automaton_of rs) (plan_of rs) (i + 1) (drop (suc i) path) a.term a.state) limit)
                    ∙ sym (ap (followed max_term i letter (λ a. replay max_term (automaton_of rs) (plan_of rs) (i + 1) (drop (suc i) path) a.term a.state)) eo)
                    ∙ sym (one_more rs x.term x.state)
                    ∙ x.same;
              };
        }

    -- a letter that does not lead to a term within the limit
    stop_at : (fault : Fault) (a : Option Replay.At) (others : Replay.At → Ending) → LeadsTo file cells' i' letter a (Err fault) → path_as (Err (record { fault = fault; place = i })) ≡ path_answer (followed max_term i letter others a)
    unfolding followed LeadsTo path_as path_answer exceeds
    stop_at fault a others (inl (e, none_there)) = ap (λ f. refused_path (record { number = number_of f; place = i })) e ∙ ap (λ x. path_answer (followed max_term i letter others x)) (sym none_there)
    stop_at fault a others (inr (e, z, b, there, large)) =
        let over : exceeds max_term letter b.term ≡ true = rw (eq-eqb letter 0 z, lt-ltb max_term (nodes b.term) large) in
        ap (λ f. refused_path (record { number = number_of f; place = i })) e
        ∙ sym (ap (λ x. path_answer (followed max_term i letter others x)) there ∙ ap (λ c. path_answer (choose c then outgrown i else others b)) over)

    pub run_stop : (fault : Fault) → step ≡ Err fault → Runs file index rules constructors table path cells₀ (Err (record { fault = fault; place = i }))
    unfolding replayed
    run_stop fault es =
        record {
          answer = λ rs s room short.
              let x = w.onward rs s room short in
              stop_at fault (follow (automaton_of rs) (plan_of rs) letter x.term x.state) (λ a. replay max_term (automaton_of rs) (plan_of rs) (i + 1) (drop (suc i) path) a.term a.state)
              (subst (LeadsTo file cells' i' letter (follow (automaton_of rs) (plan_of rs) letter x.term x.state)) es (reached rs s room short x))
              ∙ ap path_answer (sym (one_more rs x.term x.state) ∙ x.same);
        }

  -- behind the last letter
  pub run_end : length path ≤ i → (r : Result Refuted Refusal) → Arrives table constructors held (length path) r → Runs file index rules constructors table path cells₀ r
  unfolding replayed replay
  run_end h r arrives =
      record {
        answer = λ rs s room short.
            let x = w.onward rs s room short in
            let all : i ≡ length path = omega (arith, w.up_to) in
            let e : drop i path ≡ [] = drop_of_length-le path h in
            (subst (λ n. Arrives table constructors held n r) (sym all) arrives).answer file index rules rs s cells (i + 1) x.term x.state x.holding
            ∙ ap path_answer (sym (ap (λ l. replay max_term (automaton_of rs) (plan_of rs) i l x.term x.state) e) ∙ x.same);
      }

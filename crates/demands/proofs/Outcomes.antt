-- From the case of a file to what its answer brings: lemmas for proofs/Demands.antt.
-- A binding case gives the greatest consistent set, a path case the reading of its replay, `proved` the safety rule.
use Prim.Native.Nat.{ℕ, ◌+◌, ◌≤◌}
use native.Mathlib.Nat.{zero-add}
use native.Mathlib.Omega.{arith}
use mathlib.Core.Path.{◌≡◌, refl, sym, ap, subst, subst₂, ◌∙◌}
use mathlib.Core.Logic.{◌⊎◌, inl, inr}
use mathlib.Core.Bool.{Bool, true, false, false≢true}
use mathlib.Core.List.{List, [], ◌++◌, Memᴰ}
use lib.ListN.{length, get_or, drop, get_or-append}
use Rattle.scheme.specs.Lists.{choose◌then◌else◌}
use Rattle.scheme.specs.Reduction.{Plan, start}
use Rattle.scheme.specs.Typing.{Automaton, Binding}
use Rattle.scheme.specs.Rounds.{kept, rounds}
use Rattle.scheme.specs.Acceptance.{start_binding, holds_exactly, accepts}
use Rattle.scheme.specs.Terms.{nodes}
use Rattle.scheme.specs.Replay.{is_error_path, Ending, refutes, lost, outgrown, elsewhere, replay}
use Rattle.scheme.specs.Paths.{starting, Ends}
use Rattle.scheme.specs.Safety.{SafetyRule}
use Rattle.scheme.proofs.TypingRules.{exactly_rules, rules_exactly}
use Rattle.scheme.proofs.Rounds.{kept_sub, kept_stable, kept_ends, rounds_kept, rounds_least, rounds_dropped}
use Rattle.scheme.specs.Flags.{kept_flags}
use Rattle.scheme.proofs.Flags.{bits_at, chosen_kept, chosen_prefix, kept_flags_length, kept_flags_bits}
use Rattle.scheme.proofs.Acceptance.{holds_greatest, accepts_out, accepts_in, accepted_safe}
use Rattle.scheme.proofs.Paths.{replay_ends, replay_refutes, refutes_error}
use Rattle.casefile.specs.Records.{Record}
use Rattle.casefile.specs.Kinds.{Kind, payloads}
use Rattle.casefile.specs.Refusals.{Refusal}
use Rattle.casefile.specs.Tables.{plan_of, automaton_of, bindings_of}
use Rattle.casefile.specs.Cases.{Case, refused_case, binding_case, path_case, case_of}
use Rattle.casefile.proofs.Passed.{binding_case_law, path_case_law}
use Rattle.casefile.specs.PathCases.{node_limit, path_answer, replayed}
use Rattle.casefile.specs.BindingCases.{shrunk}
use Rattle.demands.specs.Answers.{Answer, proved, unproved, refuted, Outcome, refusal, binding_outcome, path_outcome, outcome_of, answer, flags_after}
use Rattle.demands.specs.Demands.{plan_in, automaton_in, letters_in, Shrinks, PathJudged, Demand1, Demand2, Demand3}
use Rattle.demands.proofs.PlainWords.{over, answer_of, binding_says, not_refuted}

-- Binding cases.
module _ (aut : Automaton) (plan : Plan) (offered : List Binding) where
  verdict_by : (k r : ℕ) (b : Bool) → accepts aut plan offered ≡ b
      → (Memᴰ start_binding (kept (holds_exactly aut plan) offered) × ((choose b then proved k (length offered) r else unproved k (length offered) r) ≡ proved k (length offered) r))
      ⊎ ((Memᴰ start_binding (kept (holds_exactly aut plan) offered) → ⊥) × ((choose b then proved k (length offered) r else unproved k (length offered) r) ≡ unproved k (length offered) r))
  verdict_by k r true e = inl (accepts_out aut plan offered e, refl)
  verdict_by k r false e = inr (λ m. false≢true (sym e ∙ accepts_in aut plan offered m), refl)

  shrinks : (rest : List ℕ) → Shrinks aut plan offered (kept_flags (holds_exactly aut plan) offered ++ rest) (binding_outcome (shrunk aut plan offered)).answer
  unfolding binding_outcome shrunk
  shrinks rest =
      let test = holds_exactly aut plan in
      record {
        kept = kept test offered;
        rounds = rounds test offered;
        is_offered = kept_sub test offered;
        is_consistent = λ b m. exactly_rules aut plan (kept test offered) b (kept_stable test offered b m);
        is_greatest = λ s c. holds_greatest aut plan s offered (λ b m. rules_exactly aut plan s b (c b m));
        is_marked = chosen_prefix (kept_flags test offered) rest offered (let n = kept_flags_length test offered in omega arith) ∙ chosen_kept test offered;
        are_bits = λ i h.
            let n = kept_flags_length test offered in
            let e = get_or-append (kept_flags test offered) rest 0 i (omega arith) in
            subst (λ f. (f ≡ 0) ⊎ (f ≡ 1)) (sym e) (bits_at (kept_flags test offered) i (kept_flags_bits test offered));
        is_left = rounds_kept test offered;
        is_final = kept_ends test offered;
        is_least = rounds_least test offered;
        is_bounded = rounds_dropped test offered;
        verdict = verdict_by (length (kept test offered)) (rounds test offered) (accepts aut plan offered) refl;
      }

  proved_accepts : (k n r : ℕ) → (binding_outcome (shrunk aut plan offered)).answer ≡ proved k n r → accepts aut plan offered ≡ true
  unfolding binding_outcome shrunk
  proved_accepts k n r e = by (length (kept (holds_exactly aut plan) offered)) (rounds (holds_exactly aut plan) offered) (accepts aut plan offered) e
    where
      by : (m c : ℕ) (b : Bool) → (choose b then proved m (length offered) c else unproved m (length offered) c) ≡ proved k n r → b ≡ true
      by m c true f = refl
      by m c false f = cc

-- Path cases.
ending_refuted : (e : Ending) (n q c : ℕ) → (path_outcome (path_answer e)).answer ≡ refuted n q c → e ≡ refutes n q c
unfolding path_outcome path_answer refusal
ending_refuted (refutes m p d) n q c f = cc
ending_refuted (lost k) n q c f = cc
ending_refuted (outgrown k) n q c f = cc
ending_refuted (elsewhere k) n q c f = cc

ending_not_proved : (e : Ending) (k n r : ℕ) → (path_outcome (path_answer e)).answer ≡ proved k n r → ⊥
unfolding path_outcome path_answer refusal
ending_not_proved (refutes m p d) k n r f = let z : ◌≡◌ {A = ℕ} 0 1 = cc in omega arith
ending_not_proved (lost l) k n r f = let z : ◌≡◌ {A = ℕ} 0 1 = cc in omega arith
ending_not_proved (outgrown l) k n r f = let z : ◌≡◌ {A = ℕ} 0 1 = cc in omega arith
ending_not_proved (elsewhere l) k n r f = let z : ◌≡◌ {A = ℕ} 0 1 = cc in omega arith

start_fits : nodes start ≤ node_limit
unfolding nodes
start_fits = omega arith

module _ (aut : Automaton) (plan : Plan) (letters : List ℕ) where
  replays : PathJudged aut plan letters (path_outcome (replayed aut plan letters)).answer
  unfolding replayed Ends path_outcome path_answer
  replays =
      let e = replay node_limit aut plan 0 letters start 0 in
      let ends = replay_ends aut plan node_limit 0 letters starting start_fits in
      record {
        refutes = λ q c r. refuted_by q c (replay_refutes aut plan node_limit 0 letters starting q c r);
        refuted_replays = λ n q c f.
            let (m, to) = subst (Ends aut plan node_limit 0 letters starting) (ending_refuted e n q c f) ends in
            (sym (zero-add (length letters)) ∙ m, to);
        ending = e;
        ends = ends;
        says = refl;
      }
    where
      refuted_by : (q c : ℕ) → replay node_limit aut plan 0 letters start 0 ≡ refutes (0 + length letters) q c → (path_outcome (path_answer (replay node_limit aut plan 0 letters start 0))).answer ≡ refuted (length letters) q c
      refuted_by q c f = ap (λ e. (path_outcome (path_answer e)).answer) f ∙ ap (λ n. refuted n q c) (zero-add (length letters))

of_binding_case : (rs : List Record) (lent : List ℕ) → Shrinks (automaton_of rs) (plan_of rs) (bindings_of rs) (over (outcome_of (binding_case rs)).written lent) (outcome_of (binding_case rs)).answer
unfolding outcome_of binding_outcome shrunk
of_binding_case rs lent = shrinks (automaton_of rs) (plan_of rs) (bindings_of rs) (drop (length (kept_flags (holds_exactly (automaton_of rs) (plan_of rs)) (bindings_of rs))) lent)

of_path_case : (rs : List Record) (ls : List ℕ) → PathJudged (automaton_of rs) (plan_of rs) ls (outcome_of (path_case rs ls)).answer
unfolding outcome_of
of_path_case rs ls = replays (automaton_of rs) (plan_of rs) ls

module _ (file lent : List ℕ) where
  pub meets2 : (a : Answer) (marks : List ℕ) → Demand1 file lent a marks → Demand2 file lent a marks
  unfolding flags_after
  meets2 a marks d =
      record {
        of_bindings_law = λ rs e.
            let (known, none-there) = binding_case_law (length lent) file rs e in
            let out = answer_of file lent (binding_case rs) e in
            subst (λ z. Shrinks (automaton_of z) (plan_of z) (bindings_of z) marks a) known.all_records
            (subst₂ (Shrinks (automaton_of rs) (plan_of rs) (bindings_of rs))
            (ap (λ (z : Outcome). over z.written lent) (sym out) ∙ sym d.are_marks)
            (ap (λ (z : Outcome). z.answer) (sym out) ∙ sym d.is_answer)
            (of_binding_case rs lent));
        of_path_law = λ rs ls e.
            let (known, first_path) = path_case_law (length lent) file rs ls e in
            let out = answer_of file lent (path_case rs ls) e in
            subst (λ z. PathJudged (automaton_of z) (plan_of z) (get_or (payloads Kind.path z) 0 []) a) known.all_records
            (subst₂ (PathJudged (automaton_of rs) (plan_of rs)) (sym first_path)
            (ap (λ (z : Outcome). z.answer) (sym out) ∙ sym d.is_answer)
            (of_path_case rs ls));
      }

  refusal_not_proved : (r : Refusal) (k n m : ℕ) → (refusal r).answer ≡ proved k n m → ⊥
  unfolding refusal
  refusal_not_proved r k n m e = let z : ◌≡◌ {A = ℕ} 0 1 = cc in omega arith

  -- demand 3, by the case of the file
  safe_by : (c : Case) → case_of file (length lent) ≡ c → (k n m : ℕ) → (outcome_of c).answer ≡ proved k n m → SafetyRule (automaton_in file) (plan_in file)
  unfolding outcome_of replayed
  safe_by (refused_case r) e k n m p = absurd (refusal_not_proved r k n m p)
  safe_by (binding_case rs) e k n m p =
      let (known, none-there) = binding_case_law (length lent) file rs e in
      subst (λ z. SafetyRule (automaton_of z) (plan_of z)) known.all_records
      (accepted_safe (automaton_of rs) (plan_of rs) (bindings_of rs) (proved_accepts (automaton_of rs) (plan_of rs) (bindings_of rs) k n m p))
  safe_by (path_case rs ls) e k n m p = absurd (ending_not_proved (replay node_limit (automaton_of rs) (plan_of rs) 0 ls start 0) k n m p)

  pub meets3 : (a : Answer) (marks : List ℕ) → Demand1 file lent a marks → Demand3 file a
  meets3 a marks d k n m p =
      safe_by (case_of file (length lent)) refl k n m (ap (λ (z : Outcome). z.answer) (sym (answer_of file lent (case_of file (length lent)) refl)) ∙ sym d.is_answer ∙ p)

-- Never both.
refuted_error : (file : List ℕ) (flags : ℕ) (n q c : ℕ) (x : Case) → case_of file flags ≡ x → (outcome_of x).answer ≡ refuted n q c → is_error_path (automaton_in file) (plan_in file) (letters_in file) start 0 ≡ true
unfolding outcome_of replayed refusal nodes
refuted_error file flags n q c (refused_case r) e p = absurd (let z : ◌≡◌ {A = ℕ} 0 1 = cc in omega arith)
refuted_error file flags n q c (binding_case rs) e p =
    let s = shrunk (automaton_of rs) (plan_of rs) (bindings_of rs) in
    absurd (not_refuted (binding_outcome s).answer n q c (binding_says s) p)
refuted_error file flags n q c (path_case rs ls) e p =
    let (known, first_path) = path_case_law flags file rs ls e in
    let err = refutes_error (automaton_of rs) (plan_of rs) node_limit 0 ls n q c start_fits (ending_refuted (replay node_limit (automaton_of rs) (plan_of rs) 0 ls start 0) n q c p) in
    subst (λ z. is_error_path (automaton_of z) (plan_of z) (get_or (payloads Kind.path z) 0 []) start 0 ≡ true) known.all_records
    (subst (λ z. is_error_path (automaton_of rs) (plan_of rs) z start 0 ≡ true) (sym first_path) err)

-- a refuted file's path is an error path of its plan and automaton
pub refuted_errs : (file lent : List ℕ) (n q c : ℕ) → (answer file (length lent)).answer ≡ refuted n q c → is_error_path (automaton_in file) (plan_in file) (letters_in file) start 0 ≡ true
refuted_errs file lent n q c h =
    refuted_error file (length lent) n q c (case_of file (length lent)) refl (ap (λ (z : Outcome). z.answer) (sym (answer_of file lent (case_of file (length lent)) refl)) ∙ h)

-- THE EXPLANATIONS, for every file and all lent numbers: whatever equals the answer and the numbers of the definitions says of each
-- dropped binding its true round, and a node no type of whose head leads to the type wanted there.
use Prim.Native.Nat.{ℕ, zero, suc, ◌+◌, ◌*◌, ◌-◌, ◌<◌, ◌≤◌}
use native.Mathlib.Omega.{arith}
use mathlib.Core.Path.{◌≡◌, refl, sym, ap, subst, ◌∙◌}
use mathlib.Core.List.{List, ◌++◌}
use lib.ListN.{length, get_or, drop, replicate, length-replicate, get_or-append}
use Rattle.scheme.specs.Terms.{nt}
use Rattle.scheme.specs.Reduction.{Plan, body}
use Rattle.scheme.specs.Types.{Ty, state, arrow, domains}
use Rattle.scheme.specs.Typing.{Automaton, Binding, head_types}
use Rattle.scheme.specs.Rounds.{after}
use Rattle.scheme.specs.Flags.{round_of}
use Rattle.scheme.specs.Acceptance.{start_binding, holds_exactly, binding_reason}
use Rattle.scheme.proofs.Rounds.{after_sub}
use Rattle.scheme.proofs.Falls.{falls_out, falls_kept, falls_gone, falls_fails}
use Rattle.scheme.proofs.Reasons.{search_stands, reason_exactly}
use Rattle.casefile.specs.Records.{Record}
use Rattle.casefile.specs.Tables.{plan_of, automaton_of, types_of, bindings_of}
use Rattle.casefile.specs.Cases.{Case, refused_case, binding_case, path_case, case_of}
use Rattle.casefile.specs.Explanations.{number_of, wanted_in, explanation, explained, four_numbers, explained_numbers}
use Rattle.casefile.proofs.Passed.{binding_case_law}
use Rattle.casefile.proofs.Repeats.{get_d_mem}
use Rattle.casefile.proofs.Listed.{Listed, wanted_listed}
use Rattle.casefile.proofs.Explanations.{explained_long, explained_at, explained_kept, explained_dropped, number_listed}
use Rattle.demands.specs.Answers.{Answer, answer, flags_after}
use Rattle.demands.specs.Demands.{offered_in, Demand3}
use Rattle.demands.specs.Explanations.{most_bindings, numbers_of, numbers_after, Names, a_state, a_type, TrueExplanation, TrueOf, is_kept_law, is_dropped, Explains}
use Rattle.demands.proofs.PlainWords.{over, over_past}
use Rattle.demands.proofs.Demands.{demand1, demand3}

-- a type that is listed is printed by its number
names : (types : List Ty) (σ : Ty) → Listed types σ → Names types (wanted_in types σ) σ
unfolding Listed wanted_in
names types (state q) h = a_state q
names types (arrow a r) h =
    let (l, e) = number_listed h in
    a_type (number_of (arrow a r) types) l e (λ q f. let z : ◌≡◌ {A = ℕ} 0 1 = cc in omega arith)

-- Of the records of a case.
module _ (rs : List Record) where
  abbrev aut : Automaton
  aut = automaton_of rs

  abbrev plan : Plan
  plan = plan_of rs

  abbrev offered : List Binding
  offered = bindings_of rs

  -- the set as round n + 1 began
  abbrev begun : ℕ → List Binding
  begun n = after (holds_exactly aut plan) n offered

  module _ (i : ℕ) (h : i < length offered) where
    abbrev it : Binding
    it = get_or offered i start_binding

    dropped : (n : ℕ) → round_of (holds_exactly aut plan) offered i ≡ suc n → TrueExplanation aut plan (types_of rs) offered i (explanation (types_of rs) (suc n) (binding_reason aut plan (begun n) it))
    unfolding explanation
    dropped n e =
        let less : suc n - 1 ≡ n = omega arith in
        let (there, gone) = falls_out (holds_exactly aut plan) offered i n h e in
        let read = reason_exactly aut plan (begun n) it (falls_fails (holds_exactly aut plan) offered i n start_binding h e) in
        let (head, count, inside, is_node, none_leads) = search_stands (λ a b. a ≡ b) (head_types aut (begun n) (domains it.type)) (record { head = nt 0; count = 0 }) (body plan it.nonterminal) read in
        let listed = wanted_listed rs (λ a b. a ≡ b) aut plan (begun n) it (after_sub (holds_exactly aut plan) n offered) (get_d_mem offered i start_binding h) read in
        record {
          from_one = omega arith;
          kept_before = rw less there;
          gone_after = gone;
          head = head;
          count = count;
          inside = inside;
          is_node = is_node;
          goal = (binding_reason aut plan (begun n) it).wanted;
          is_reached = rw less read;
          is_printed = names (types_of rs) (binding_reason aut plan (begun n) it).wanted listed;
          no_type_leads = rw less none_leads;
        }

    true_of : TrueOf aut plan (types_of rs) offered i (explained aut plan (types_of rs) offered i)
    true_of = by (round_of (holds_exactly aut plan) offered i) refl
      where
        by : (n : ℕ) → round_of (holds_exactly aut plan) offered i ≡ n → TrueOf aut plan (types_of rs) offered i (explained aut plan (types_of rs) offered i)
        by zero e = rw (explained_kept aut plan (types_of rs) offered i e) (is_kept_law (falls_kept (holds_exactly aut plan) offered i h e))
        by (suc n) e = rw (explained_dropped aut plan (types_of rs) offered i n e) (is_dropped (falls_gone (holds_exactly aut plan) offered i n e) (dropped n e))

    -- its four numbers stand before what is left of those lent
    says_at : (rest : List ℕ) (k : ℕ) → k < 4 → get_or (explained_numbers aut plan (types_of rs) offered ++ rest) (4 * i + k) 0 ≡ get_or (four_numbers (explained aut plan (types_of rs) offered i)) k 0
    says_at rest k l =
        let long = explained_long aut plan (types_of rs) offered in
        get_or-append (explained_numbers aut plan (types_of rs) offered) rest 0 (4 * i + k) (omega arith) ∙ explained_at aut plan (types_of rs) offered i k h l

-- `proved` with any number of flags is enough for the safety rule
safe_with : (file : List ℕ) (n : ℕ) (a : Answer) → a ≡ (answer file n).answer → Demand3 file a
safe_with file n a e =
    let lent : List ℕ = replicate n 0 in
    let same : n ≡ length lent = sym (length-replicate n 0) in
    demand3 file lent a (flags_after file lent) (demand1 file lent a (flags_after file lent) (subst (λ m. a ≡ (answer file m).answer) same e) refl)

module _ (file lent : List ℕ) where
  untouched_by : (c : Case) → ((rs : List Record) → c ≡ binding_case rs → ⊥) → over (numbers_of c) lent ≡ lent
  unfolding numbers_of
  untouched_by (refused_case r) h = refl
  untouched_by (binding_case rs) h = absurd (h rs refl)
  untouched_by (path_case rs ls) h = refl

  past_by : (c : Case) → case_of file most_bindings ≡ c → (k : ℕ) → 4 * length (offered_in file) ≤ k → get_or (over (numbers_of c) lent) k 0 ≡ get_or lent k 0
  unfolding numbers_of
  past_by (refused_case r) e k h = refl
  past_by (binding_case rs) e k h =
      let (known, none-there) = binding_case_law most_bindings file rs e in
      let all : length (bindings_of rs) ≡ length (offered_in file) = ap (λ z. length (bindings_of z)) known.all_records in
      let long = explained_long (automaton_of rs) (plan_of rs) (types_of rs) (bindings_of rs) in
      over_past (explained_numbers (automaton_of rs) (plan_of rs) (types_of rs) (bindings_of rs)) lent k (omega arith)
  past_by (path_case rs ls) e k h = refl

  says_by : (rs : List Record) → case_of file most_bindings ≡ binding_case rs → (i : ℕ) → i < length (bindings_of rs) → (k : ℕ) → k < 4
      → get_or (numbers_after file lent) (4 * i + k) 0 ≡ get_or (four_numbers (explained (automaton_of rs) (plan_of rs) (types_of rs) (bindings_of rs) i)) k 0
  unfolding numbers_after numbers_of
  says_by rs e i h k l =
      ap (λ c. get_or (over (numbers_of c) lent) (4 * i + k) 0) e
      ∙ says_at rs i h (drop (length (explained_numbers (automaton_of rs) (plan_of rs) (types_of rs) (bindings_of rs))) lent) k l

  -- THE EXPLANATIONS of whatever equals the answer and the numbers of the definitions
  pub explains : (a : Answer) (numbers : List ℕ) → a ≡ (answer file most_bindings).answer → numbers ≡ numbers_after file lent → Explains file lent a numbers
  unfolding numbers_after
  explains a numbers ea en =
      record {
        is_answer = ea;
        are_numbers = en;
        untouched = λ h. en ∙ untouched_by (case_of file most_bindings) h;
        past_untouched = λ k h. ap (λ z. get_or z k 0) en ∙ past_by (case_of file most_bindings) refl k h;
        says = λ rs e i h k l.
            ap (λ z. get_or z (4 * i + k) 0) en
            ∙ subst (λ z. i < length (bindings_of z) → get_or (numbers_after file lent) (4 * i + k) 0 ≡ get_or (four_numbers (explained (automaton_of z) (plan_of z) (types_of z) (bindings_of z) i)) k 0)
            (binding_case_law most_bindings file rs e).0.all_records (λ h. says_by rs e i h k l) h;
        true_of = λ rs e i h.
            subst (λ z. i < length (bindings_of z) → TrueOf (automaton_of z) (plan_of z) (types_of z) (bindings_of z) i (explained (automaton_of z) (plan_of z) (types_of z) (bindings_of z) i))
            (binding_case_law most_bindings file rs e).0.all_records (true_of rs i) h;
        safe = safe_with file most_bindings a ea;
      }

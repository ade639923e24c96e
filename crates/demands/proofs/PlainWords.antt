-- Demand 1 in plain words, by the case of a file: a refusal and a path leave the lent bytes as they were; bindings write a byte each.
use Prim.Native.Nat.{ℕ, ◌+◌, ◌-◌, ◌≤◌}
use native.Mathlib.Omega.{arith}
use mathlib.Core.Path.{◌≡◌, refl, sym, ap, subst, subst₂, ◌∙◌}
use mathlib.Core.Logic.{◌⊎◌, inl, inr}
use mathlib.Core.Bool.{Bool, true, false}
use mathlib.Core.List.{List, [], ◌++◌}
use lib.ListN.{length, get_or, drop, length-append, length-drop}
use lib.Seq.{get_or-append-add, get_or-drop}
use Rattle.scheme.specs.Lists.{choose◌then◌else◌}
use Rattle.scheme.specs.Acceptance.{holds_exactly}
use Rattle.scheme.proofs.Flags.{kept_flags_length}
use Rattle.casefile.specs.Records.{Record}
use Rattle.casefile.specs.Kinds.{Kind, payloads}
use Rattle.casefile.specs.Tables.{plan_of, automaton_of, bindings_of}
use Rattle.casefile.specs.Cases.{Case, refused_case, binding_case, path_case, case_of}
use Rattle.casefile.specs.PathCases.{PathAnswer, refuted_path, refused_path, replayed}
use Rattle.casefile.specs.BindingCases.{Shrunk, shrunk}
use Rattle.casefile.proofs.Passed.{binding_case_law, path_there}
use Rattle.casefile.proofs.Plans.{bindings_many, enough_flags}
use Rattle.casefile.proofs.Numbers.{InTable, case_numbered, path_numbered}
use Rattle.demands.specs.Answers.{Answer, proved, unproved, refuted, refused, Outcome, refusal, binding_outcome, path_outcome, outcome_of, answer, flags_after}
use Rattle.demands.specs.Demands.{paths_in, offered_in, IsProved, IsUnproved, IsRefuted, IsRefused, InPlainWords, Demand1}

-- the lent bytes after some were written
abbrev pub over : List ℕ → List ℕ → List ℕ
over w lent = w ++ drop (length w) lent

over_length : (w lent : List ℕ) → length w ≤ length lent → length (over w lent) ≡ length lent
over_length w lent h = simp (length-append, length-drop) (omega arith)

pub over_past : (w lent : List ℕ) (i : ℕ) → length w ≤ i → get_or (over w lent) i 0 ≡ get_or lent i 0
over_past w lent i h =
    let j : length w + (i - length w) ≡ i = omega arith in
    let e = get_or-append-add w (drop (length w) lent) (i - length w) 0 ∙ get_or-drop (length w) lent (i - length w) 0 in
    subst (λ k. get_or (over w lent) k 0 ≡ get_or lent k 0) j e

-- an answer to bindings is proved or unproved
pub binding_says : (s : Shrunk) → IsProved (binding_outcome s).answer ⊎ IsUnproved (binding_outcome s).answer
unfolding binding_outcome
binding_says s = by s.accepted
  where
    by : (b : Bool) → IsProved (choose b then proved s.kept s.total s.rounds else unproved s.kept s.total s.rounds)
        ⊎ IsUnproved (choose b then proved s.kept s.total s.rounds else unproved s.kept s.total s.rounds)
    by true = inl (s.kept, s.total, s.rounds, refl)
    by false = inr (s.kept, s.total, s.rounds, refl)

-- and so neither refused nor refuted
not_refused : (a : Answer) (n p : ℕ) → IsProved a ⊎ IsUnproved a → a ≡ refused n p → ⊥
not_refused a n p (inl (k, t, r, e)) f = let z : ◌≡◌ {A = ℕ} 0 1 = cc in omega arith
not_refused a n p (inr (k, t, r, e)) f = let z : ◌≡◌ {A = ℕ} 0 1 = cc in omega arith

pub not_refuted : (a : Answer) (n q c : ℕ) → IsProved a ⊎ IsUnproved a → a ≡ refuted n q c → ⊥
not_refuted a n q c (inl (k, t, r, e)) f = let z : ◌≡◌ {A = ℕ} 0 1 = cc in omega arith
not_refuted a n q c (inr (k, t, r, e)) f = let z : ◌≡◌ {A = ℕ} 0 1 = cc in omega arith

module _ (file lent : List ℕ) where
  -- the outcome of a file is that of its case
  pub answer_of : (c : Case) → case_of file (length lent) ≡ c → answer file (length lent) ≡ outcome_of c
  unfolding answer
  answer_of c e = ap outcome_of e

  -- an answer that leaves all bytes as they were
  leaves : (a : Answer) → ((n p : ℕ) → a ≡ refused n p → InTable n) → (paths_in file ≡ [] → IsRefused a ⊎ (IsProved a ⊎ IsUnproved a)) → ((paths_in file ≡ [] → ⊥) → IsRefused a ⊎ IsRefuted a)
      → InPlainWords file lent a lent
  leaves a number without with =
      record {
        refused_number = number;
        refused_untouched = λ n p e. refl;
        refuted_untouched = λ n q c e. refl;
        without_path = without;
        with_path = with;
        same_length = refl;
        past_untouched = λ i h. refl;
      }

  -- a refusal
  refuses : (m k : ℕ) → InTable m → InPlainWords file lent (refused m k) lent
  refuses m k h = leaves (refused m k) (λ n p e. let f : m ≡ n = cc in subst InTable f h) (λ e. inl (m, k, refl)) (λ e. inl (m, k, refl))

  path_words : (rs : List Record) (ls : List ℕ) → case_of file (length lent) ≡ path_case rs ls → (x : PathAnswer) → replayed (automaton_of rs) (plan_of rs) ls ≡ x
      → InPlainWords file lent (path_outcome x).answer (over (path_outcome x).written lent)
  unfolding path_outcome refusal
  path_words rs ls e (refuted_path n q c) f =
      leaves (refuted n q c)
      (λ m p g. absurd (let z : ◌≡◌ {A = ℕ} 0 1 = cc in omega arith))
      (λ none-there. absurd (path_there (length lent) file rs ls e none-there))
      (λ there. inr (n, q, c, refl))
  path_words rs ls e (refused_path r) f = refuses r.number r.place (path_numbered (automaton_of rs) (plan_of rs) ls r f)

  binding_words : (rs : List Record) → case_of file (length lent) ≡ binding_case rs → (s : Shrunk) → length s.flags ≡ length (bindings_of rs)
      → InPlainWords file lent (binding_outcome s).answer (over s.flags lent)
  binding_words rs e s long =
      let (known, none-there) = binding_case_law (length lent) file rs e in
      let many = bindings_many rs in
      let enough = enough_flags rs (length lent) known.whole_file in
      let all : length (bindings_of rs) ≡ length (offered_in file) = ap (λ z. length (bindings_of z)) known.all_records in
      let says = binding_says s in
      record {
        refused_number = λ n p f. absurd (not_refused (binding_outcome s).answer n p says f);
        refused_untouched = λ n p f. absurd (not_refused (binding_outcome s).answer n p says f);
        refuted_untouched = λ n q c f. absurd (not_refuted (binding_outcome s).answer n q c says f);
        without_path = λ f. inr says;
        with_path = λ there. absurd (there (subst (λ z. payloads Kind.path z ≡ []) known.all_records none-there));
        same_length = over_length s.flags lent (omega arith);
        past_untouched = λ i h. over_past s.flags lent i (omega arith);
      }

  words : (c : Case) → case_of file (length lent) ≡ c → InPlainWords file lent (outcome_of c).answer (over (outcome_of c).written lent)
  unfolding outcome_of refusal binding_outcome shrunk
  words (refused_case r) e = refuses r.number r.place (case_numbered file (length lent) r e)
  words (binding_case rs) e =
      binding_words rs e (shrunk (automaton_of rs) (plan_of rs) (bindings_of rs)) (kept_flags_length (holds_exactly (automaton_of rs) (plan_of rs)) (bindings_of rs))
  words (path_case rs ls) e = path_words rs ls e (replayed (automaton_of rs) (plan_of rs) ls) refl

  -- DEMAND 1 of whatever equals the answer and the flags of the definitions
  pub meets1 : (a : Answer) (marks : List ℕ) → a ≡ (answer file (length lent)).answer → marks ≡ flags_after file lent → Demand1 file lent a marks
  unfolding flags_after
  meets1 a marks ea em =
      let c = case_of file (length lent) in
      let said = subst (λ (z : Outcome). InPlainWords file lent z.answer (over z.written lent)) (sym (answer_of c refl)) (words c refl) in
      record { is_answer = ea; are_marks = em; in_words = subst₂ (InPlainWords file lent) (sym ea) (sym em) said }

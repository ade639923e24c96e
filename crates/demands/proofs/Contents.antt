-- THE LAW OF PLACES: verdict and flags depend on the kinds and payloads of the records that count, not on their places. So a
-- file and the same file without its remarks get the same.
use Prim.Native.Nat.{ℕ}
use mathlib.Core.Path.{◌≡◌, refl, sym, ap, ap₂, ◌∙◌}
use mathlib.Core.List.{List, []}
use lib.ListN.{length, get_or}
use Rattle.casefile.specs.Records.{Record, records_of, listed}
use Rattle.casefile.specs.Kinds.{path, payloads}
use Rattle.casefile.specs.Refusals.{Refusal}
use Rattle.casefile.specs.Cases.{Case, refused_case, binding_case, path_case, case_of}
use Rattle.casefile.specs.Remarks.{told, contents, without_remarks}
use Rattle.casefile.proofs.Passed.{binding_case_law, path_case_law, path_there}
use Rattle.casefile.proofs.Remarks.{told_payloads, without_same}
use Rattle.casefile.proofs.Alike.{SamePayloads, same_plan, same_automaton, same_bindings, same_path, without_case}
use Rattle.demands.specs.Answers.{Outcome, refusal, outcome_of, answer, flags_after}
use Rattle.demands.specs.Demands.{IsRefused}
use Rattle.demands.specs.Contents.{IsCase, SameVerdict}
use Rattle.demands.proofs.PlainWords.{answer_of}

-- records that agree but for nonterminals have the same outcome
module _ (rs rs' : List Record) (same : SamePayloads rs rs') where
  same_shrunk : outcome_of (binding_case rs) ≡ outcome_of (binding_case rs')
  unfolding outcome_of
  same_shrunk = rw (same_automaton rs rs' same, same_plan rs rs' same, same_bindings rs rs' same) refl

  same_replayed : (ls : List ℕ) → outcome_of (path_case rs ls) ≡ outcome_of (path_case rs' ls)
  unfolding outcome_of
  same_replayed ls = rw (same_automaton rs rs' same, same_plan rs rs' same) refl

-- Two files with such records that are cases have the same outcome, 13 to 15 among them: places of letters count from the path.
module _ (f g lent : List ℕ) (same : SamePayloads (listed (records_of f)) (listed (records_of g))) where
  by_case : (c d : Case) → case_of f (length lent) ≡ c → case_of g (length lent) ≡ d → ((r : Refusal) → c ≡ refused_case r → ⊥) → ((r : Refusal) → d ≡ refused_case r → ⊥) → outcome_of c ≡ outcome_of d
  by_case (refused_case r) d e h x y = absurd (x r refl)
  by_case (binding_case rs) (refused_case r) e h x y = absurd (y r refl)
  by_case (path_case rs ls) (refused_case r) e h x y = absurd (y r refl)
  by_case (binding_case rs) (binding_case rs') e h x y =
      let (a, none-there) = binding_case_law (length lent) f rs e in
      let (b, none-there') = binding_case_law (length lent) g rs' h in
      ap (λ z. outcome_of (binding_case z)) a.all_records ∙ same_shrunk _ _ same ∙ ap (λ z. outcome_of (binding_case z)) (sym b.all_records)
  by_case (binding_case rs) (path_case rs' ls) e h x y =
      let (a, none-there) = binding_case_law (length lent) f rs e in
      absurd (path_there (length lent) g rs' ls h (sym (same_path _ _ same) ∙ ap (payloads path) (sym a.all_records) ∙ none-there))
  by_case (path_case rs ls) (binding_case rs') e h x y =
      let (b, none-there) = binding_case_law (length lent) g rs' h in
      absurd (path_there (length lent) f rs ls e (same_path _ _ same ∙ ap (payloads path) (sym b.all_records) ∙ none-there))
  by_case (path_case rs ls) (path_case rs' ls') e h x y =
      let (a, first) = path_case_law (length lent) f rs ls e in
      let (b, first') = path_case_law (length lent) g rs' ls' h in
      let letters : ls ≡ ls' = sym first ∙ ap (λ z. get_or (payloads path z) 0 []) a.all_records ∙ ap (λ z. get_or z 0 []) (same_path _ _ same) ∙ ap (λ z. get_or (payloads path z) 0 []) (sym b.all_records) ∙ first' in
      ap₂ (λ z l. outcome_of (path_case z l)) a.all_records letters ∙ same_replayed _ _ same ls' ∙ ap (λ z. outcome_of (path_case z ls')) (sym b.all_records)

  pub same_outcome : IsCase f (length lent) → IsCase g (length lent) → answer f (length lent) ≡ answer g (length lent)
  same_outcome x y = answer_of f lent _ refl ∙ by_case (case_of f (length lent)) (case_of g (length lent)) refl refl x y ∙ sym (answer_of g lent _ refl)

-- one outcome, one answer and the same flags
outcome_same : (f g lent : List ℕ) → answer f (length lent) ≡ answer g (length lent) → SameVerdict f g lent
unfolding flags_after
outcome_same f g lent e = record { same_answer = ap (λ (o : Outcome). o.answer) e; same_flags = rw e refl }

-- a file that is not refused is a case
pub unrefused : (f lent : List ℕ) → (IsRefused (answer f (length lent)).answer → ⊥) → IsCase f (length lent)
unfolding outcome_of refusal
unrefused f lent h r e = h (r.number, r.place, ap (λ (o : Outcome). o.answer) (answer_of f lent (refused_case r) e))

-- THE LAW OF PLACES, for two files whose records that count agree in kind and payload
pub places_free : (f g lent : List ℕ) → contents f ≡ contents g → IsCase f (length lent) → IsCase g (length lent) → SameVerdict f g lent
unfolding contents told
places_free f g lent e x y = outcome_same f g lent (same_outcome f g lent (λ k ne. told_payloads _ _ e k) x y)

-- A FILE WITHOUT ITS REMARKS: not refused by 1 to 12 where the file is not, and with the same answer and flags
pub remarks_free : (f lent : List ℕ) → IsCase f (length lent) → IsCase (without_remarks f) (length lent) × SameVerdict f (without_remarks f) lent
remarks_free f lent x =
    let y = without_case f (length lent) x in
    (y, places_free f (without_remarks f) lent (sym (without_same f)) x y)

-- The tests of the plan, 8 and 9, by what the program found.
use Prim.Native.Nat.{ℕ, zero, suc, ◌+◌, ◌<◌, ◌≤◌}
use native.Mathlib.Omega.{arith}
use native.Mathlib.Nat.{add-zero}
use mathlib.Core.Path.{◌≡◌, refl, sym, ap, subst, ◌∙◌}
use mathlib.Core.Bool.{Bool, true, false, ◌||◌, not}
use mathlib.Core.List.{List, []}
use mathlib.Core.Option.{none, some}
use borrow.Author.Tests.{eqb-true, eqb-false, not-false}
use Rattle.std.specs.Prelude.{Option, Some, None, Ok, Err}
use lib.Dec.{eqb}
use lib.ListN.{length, get_or}
use Rattle.scheme.proofs.Lists.{or_false}
use Rattle.casefile.specs.Fields.{word}
use Rattle.casefile.specs.Records.{Record}
use Rattle.casefile.specs.Promises.{Bytes, Passed}
use Rattle.casefile.specs.Kinds.{sort, constructor, nonterminal, rule, states, number, of_kind, payloads, count, place_of}
use Rattle.casefile.specs.Refusals.{first, wrong_length, wrong_start}
use Rattle.index.specs.layout.Layout.{max_sorts, max_constructors, max_nonterminals, nonterminals_at, rules_at}
use Rattle.index.specs.entries.Index.{Indexed}
use Rattle.rules.specs.reading.RuleBodies.{nodes_in}
use Rattle.rules.specs.rules.Rules.{Filed, FindsWrongBody, BodiesRead}
use Rattle.index.specs.entries.Known.{Known}
use Rattle.walk.proofs.kinds.Dispatch.{fitting}
use Rattle.records.specs.declared.refusal.Fault.TheVariants.{Incomplete, WrongBody}
use Rattle.records.specs.declared.refusal.Refusal.{Refusal}
use Rattle.intake.specs.plan.PlanTests.{PlanEnds, EndsAre, PlanTested}
use Rattle.intake.proofs.plan.Whole.{met_8, met_start, met_body, start_wrong, start_right}
use Rattle.intake.proofs.plan.Contents.{payload_bytes}

module _ {file index counts lens : List ℕ} {rs : List Record} (known : Known file index lens counts rs) (ok : Passed rs) where
  abbrev wrong8 : Bool
  wrong8 = eqb (count states rs) 0 || eqb (count nonterminal rs) 0 || not (eqb (count rule rs) (count nonterminal rs))

  -- 8
  pub plan_8 : (b : Bool) → b ≡ wrong8 → b ≡ true → PlanEnds rs (Err (record { fault = Incomplete; place = 0 }))
  unfolding PlanEnds
  plan_8 b e f flags = met_8 rs flags (sym e ∙ f)

  module _ (b : Bool) (e : b ≡ wrong8) (f : b ≡ false) where
    no8 : wrong8 ≡ false
    no8 = sym e ∙ f

    some_nonterminal : 0 < count nonterminal rs
    some_nonterminal = positive (count nonterminal rs) (eqb-false (count nonterminal rs) 0 (or_false (eqb (count states rs) 0) (eqb (count nonterminal rs) 0) (or_false (eqb (count states rs) 0 || eqb (count nonterminal rs) 0) (not (eqb (count rule rs) (count nonterminal rs))) no8).0).1)
      where
        positive : (n : ℕ) → (n ≡ 0 → ⊥) → 0 < n
        positive zero ne = absurd (ne refl)
        positive (suc n) ne = omega arith

    as_many : count rule rs ≡ count nonterminal rs
    as_many = eqb-true (count rule rs) (count nonterminal rs) (not-false (eqb (count rule rs) (count nonterminal rs)) (or_false (eqb (count states rs) 0 || eqb (count nonterminal rs) 0) (not (eqb (count rule rs) (count nonterminal rs))) no8).1)

    first_there : 0 < get_or counts 3 0
    unfolding number
    first_there = subst (λ z. 0 < z) (known.entries nonterminal).counted some_nonterminal

    -- the start symbol's sort
    module _ (start s : ℕ) (e-start : start ≡ get_or index nonterminals_at 0) (e-s : s ≡ word file start) where
      start_sort : s ≡ word (get_or (payloads nonterminal rs) 0 []) 0
      unfolding wrong_length number
      start_sort =
          let two : length (get_or (payloads nonterminal rs) 0 []) ≡ 2 = eqb-true (length (get_or (payloads nonterminal rs) 0 [])) 2 (not-false (eqb (length (get_or (payloads nonterminal rs) 0 [])) 2) (fitting file index lens counts rs known ok nonterminal 0 first_there)) in
          e-s ∙ ap (word file) (e-start ∙ sym (add-zero (get_or index nonterminals_at 0))) ∙ (known.entries nonterminal).field_there 0 first_there 2 0 (omega arith)

      start_place : (place : ℕ) → (4 ≤ get_or index nonterminals_at 0 → place + 4 ≡ get_or index nonterminals_at 0) → place ≡ place_of nonterminal rs 0
      unfolding number
      start_place place h =
          let a = (known.entries nonterminal).place_there 0 first_there in
          let b = h ((known.entries nonterminal).behind_header 0 first_there) in
          omega arith

      pub plan_start : (s ≡ 0 → ⊥) → (place : ℕ) → (4 ≤ get_or index nonterminals_at 0 → place + 4 ≡ get_or index nonterminals_at 0) → PlanEnds rs (Err (record { fault = WrongBody; place = place }))
      unfolding PlanEnds
      plan_start ne place h flags = met_start rs flags no8 (record { number = 9; place = place }) (start_wrong rs 0 s place some_nonterminal start_sort (start_place place h) ne)

      -- the bodies
      module _ (z : s ≡ 0) (bytes : Bytes file) (sorts constructors rules : ℕ) (es : sorts ≡ get_or counts 1 0) (ec : constructors ≡ get_or counts 2 0) (er : rules ≡ get_or counts 4 0)
          (ends ends' : List ℕ) (fits : nodes_in (payloads rule rs) ≤ length ends) (g : Option ℕ) (finds : FindsWrongBody file index sorts constructors rules rules ends ends' g) where
        start_fine : first (wrong_start (of_kind nonterminal rs)) ≡ none
        start_fine = start_right rs 0 s (place_of nonterminal rs 0) some_nonterminal start_sort refl z

        rules_are : rules ≡ get_or counts 3 0
        unfolding number
        rules_are = er ∙ sym (known.entries rule).counted ∙ as_many ∙ (known.entries nonterminal).counted

        filed : Filed file index sorts constructors rules rules rs
        unfolding number
        filed =
            record {
              passed = ok;
              sort_bytes = payload_bytes (known.entries sort) bytes;
              sorts_there = subst (λ n. Indexed file index sort n rs) (sym es) (known.entries sort);
              constructors_there = subst (λ n. Indexed file index constructor n rs) (sym ec) (known.entries constructor);
              nonterminals_there = subst (λ n. Indexed file index nonterminal n rs) (sym rules_are) (known.entries nonterminal);
              rules_there = subst (λ n. Indexed file index rule n rs) (sym er) (known.entries rule);
              few_sorts = subst (λ n. n ≤ max_sorts) (sym es) (known.fits sort);
              few_constructors = subst (λ n. n ≤ max_constructors) (sym ec) (known.fits constructor);
              few_nonterminals = subst (λ n. n ≤ max_nonterminals) (sym rules_are) (known.fits nonterminal);
              few_rules = omega arith;
            }

        found : BodiesRead rs rules ends' g
        found = finds rs filed fits

        pub plan_body : (f : ℕ) → g ≡ Some f → (place : ℕ) → (4 ≤ get_or index (rules_at + f) 0 → place + 4 ≡ get_or index (rules_at + f) 0) → PlanEnds rs (Err (record { fault = WrongBody; place = place }))
        unfolding PlanEnds number
        plan_body f is place k flags =
            let l : f < get_or counts 4 0 = subst (λ n. f < n) er (found.within f is) in
            let a = (known.entries rule).place_there f l in
            let c = k ((known.entries rule).behind_header f l) in
            let same : place_of rule rs f ≡ place = omega arith in
            met_body rs flags no8 start_fine (record { number = 9; place = place }) (found.first_refused f is ∙ ap (λ n. some (record { number = 9; place = n })) same)

        pub plan_fine : g ≡ None → PlanEnds rs (Ok tt)
        unfolding PlanEnds
        plan_fine h = record { counts_right = no8; start_right = start_fine; bodies_right = found.none_refused h }

        -- the ends of the subterms
        pub plan_ends : g ≡ None → EndsAre rs ends'
        unfolding number
        plan_ends h f i hf hi = found.ends_are h f i (let c = (known.entries rule).counted in omega arith) hi

-- a refusal leaves nothing to say of the ends
pub refused_tested : {rs : List Record} {ends : List ℕ} {r : Refusal} → PlanEnds rs (Err r) → PlanTested rs ends (Err r)
refused_tested v = record { verdict = v; ends_are = λ e. absurd (cc) }

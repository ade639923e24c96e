-- Refusal 9 of the bodies: the tests, one a rule, and the first that is met.
use Prim.Native.Nat.{ℕ, zero, suc, ◌+◌, ◌<◌, ◌≤◌}
use native.Mathlib.Omega.{arith}
use native.Mathlib.Nat.{le_of_suc-le-suc}
use mathlib.Core.Path.{◌≡◌, refl, ◌∙◌}
use mathlib.Core.Bool.{Bool, true, false}
use mathlib.Core.List.{List, [], ◌∷◌, map}
use mathlib.Core.Option.{none, some}
use Rattle.std.specs.Prelude.{Option}
use lib.ListN.{length, get_or, take}
use Rattle.scheme.specs.Sorts.{Sort, o}
use Rattle.casefile.specs.Records.{Record}
use Rattle.casefile.specs.Kinds.{nonterminal, rule, of_kind, payloads, count}
use Rattle.casefile.specs.Tables.{arities_of, signatures_of}
use Rattle.casefile.specs.Refusals.{Test, refuse◌at◌when◌, first, wrong_body, wrong_bodies}
use Rattle.casefile.proofs.TypeTable.{count_payloads}
use Rattle.sorts.specs.codes.Sorted.{SortArrays, TreeCodes}
use Rattle.bodies.specs.declared.Heads.{Heads}
use Rattle.rules.specs.rules.Rules.{Filled, Filed, BodiesRead, FindsWrongBody}
use Rattle.rules.specs.reading.RuleBodies.{FirstWrong, ReadsRules}
use Rattle.rules.proofs.rules.Judging.{signatures_length, judged}
use Rattle.index.specs.layout.Layout.{max_constructors, max_nonterminals, sorts_at, constructors_at, nonterminals_at, all_sorts}

module _ (arities : List ℕ) (signatures : List Sort) where
  abbrev payload_at : List Record → ℕ → List ℕ
  payload_at l i = get_or (map (λ (r : Record). r.payload) l) i []

  test_passed : (n p : ℕ) (b : Bool) (ts : List Test) → b ≡ false → first ((refuse n at p when b) ∷ ts) ≡ first ts
  unfolding first
  test_passed n p b ts e = rw e refl

  test_met : (n p : ℕ) (b : Bool) (ts : List Test) → b ≡ true → first ((refuse n at p when b) ∷ ts) ≡ some (record { number = n; place = p })
  unfolding first
  test_met n p b ts e = rw e refl

  all_passed : (ss : List Sort) (l : List Record) → length l ≤ length ss → ((i : ℕ) → i < length l → wrong_body arities signatures (get_or ss i o) (payload_at l i) ≡ false)
      → first (wrong_bodies arities signatures ss l) ≡ none
  unfolding wrong_bodies first
  all_passed [] l k h = refl
  all_passed (s ∷ ss) [] k h = refl
  all_passed (s ∷ ss) (x ∷ l) k h =
      test_passed 9 x.place (wrong_body arities signatures s x.payload) (wrong_bodies arities signatures ss l) (h 0 (omega arith))
      ∙ all_passed ss l (le_of_suc-le-suc k) (λ i m. h (suc i) (omega arith))

  first_met : (ss : List Sort) (l : List Record) (r : ℕ) → length l ≤ length ss → r < length l → ((i : ℕ) → i < r → wrong_body arities signatures (get_or ss i o) (payload_at l i) ≡ false)
      → wrong_body arities signatures (get_or ss r o) (payload_at l r) ≡ true
      → first (wrong_bodies arities signatures ss l) ≡ some (record { number = 9; place = get_or (map (λ (x : Record). x.place) l) r 0 })
  unfolding wrong_bodies
  first_met [] l r k m h e = absurd (omega arith)
  first_met (s ∷ ss) [] r k m h e = absurd (omega arith)
  first_met (s ∷ ss) (x ∷ l) zero k m h e = test_met 9 x.place (wrong_body arities signatures s x.payload) (wrong_bodies arities signatures ss l) e
  first_met (s ∷ ss) (x ∷ l) (suc r) k m h e =
      test_passed 9 x.place (wrong_body arities signatures s x.payload) (wrong_bodies arities signatures ss l) (h 0 (omega arith))
      ∙ first_met ss l r (le_of_suc-le-suc k) (le_of_suc-le-suc m) (λ i n. h (suc i) (omega arith)) e

module _ {file index : List ℕ} {sorts constructors nonterminals rules : ℕ} {rs : List Record} (fi : Filed file index sorts constructors nonterminals rules rs)
    (ends : List ℕ) (r : Option ℕ) (answer : FirstWrong rs rules ends r) where
  sorts_enough : length (of_kind rule rs) ≤ length (signatures_of rs)
  unfolding count
  sorts_enough =
      let a = signatures_length rs in
      let b = count_payloads nonterminal rs in
      let c = fi.nonterminals_there.counted in
      let d = fi.rules_there.counted in
      let e = fi.few_rules in
      omega arith

  -- from the number of the first wrong rule to the refusal
  pub refusal : BodiesRead rs rules ends r
  unfolding count payloads
  refusal =
      let d = fi.rules_there.counted in
      record {
        within = answer.within;
        none_refused = λ e. all_passed (arities_of rs) (signatures_of rs) (signatures_of rs) (of_kind rule rs) sorts_enough (λ i h. (answer.all e).right i (omega arith));
        first_refused = λ f e. let b = answer.within f e in
            first_met (arities_of rs) (signatures_of rs) (signatures_of rs) (of_kind rule rs) f sorts_enough (omega arith) (answer.before f e).right (answer.wrong_there f e);
        ends_are = λ e f i h l. (answer.all e).ends_are f i h l;
      }

-- the answer of the loop over the filled arrays
pub finds : (file index : List ℕ) (sorts constructors nonterminals rules : ℕ) (z₁ z₂ z₃ z₄ t₁ t₂ : List ℕ) (heads : Heads) (before after : List ℕ) (r : Option ℕ)
    → heads.sorts.froms.now ≡ take (sorts + 1) t₁ → heads.sorts.tos.now ≡ take (sorts + 1) t₂ → length z₁ ≡ all_sorts → length z₂ ≡ all_sorts → length z₃ ≡ max_constructors → length z₄ ≡ max_nonterminals
    → Filled 2 file index sorts_at 0 sorts 1 z₁ t₁ → Filled 2 file index sorts_at 2 sorts 1 z₂ t₂ → Filled 1 file index constructors_at 0 constructors 0 z₃ heads.arities.now
    → Filled 2 file index nonterminals_at 0 nonterminals 0 z₄ heads.signatures.now
    → ((ss : List Sort) → SortArrays ss heads.sorts → sorts + 1 ≡ length ss → TreeCodes ss heads.trees.now)
    → ReadsRules file index heads rules before after r → FindsWrongBody file index sorts constructors nonterminals rules before after r
finds file index sorts constructors nonterminals rules z₁ z₂ z₃ z₄ t₁ t₂ heads before after r e₁ e₂ l₁ l₂ l₃ l₄ a b c d codes answer rs fi room =
    refusal fi after r (answer rs (judged fi z₁ z₂ z₃ z₄ t₁ t₂ heads e₁ e₂ l₁ l₂ l₃ l₄ a b c d codes) room)

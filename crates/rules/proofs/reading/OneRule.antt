-- One rule: its payload by the index, and what the verdict on its body says.
use Prim.Native.Nat.{ℕ, ◌+◌, ◌-◌, ◌/◌, ◌<◌, ◌≤◌}
use native.Mathlib.Omega.{arith}
use mathlib.Core.Path.{◌≡◌, refl, sym, ap, ap₂, subst, ◌∙◌}
use mathlib.Core.Bool.{Bool, true, false, not}
use mathlib.Core.List.{List, [], ◌∷◌, map}
use borrow.Author.Tests.{not-true, not-false}
use Rattle.std.specs.Prelude.{Some, None}
use lib.ListN.{length, get_or}
use Rattle.scheme.specs.Sorts.{Sort, o}
use Rattle.casefile.specs.Fields.{word}
use Rattle.casefile.specs.Records.{Record}
use Rattle.records.specs.fields.Promises.{HasLength}
use Rattle.records.specs.cursor.Reading.{part_of}
use Rattle.casefile.specs.Kinds.{nonterminal, payloads}
use Rattle.casefile.specs.Tables.{sorts_of, arities_of, signatures_of}
use Rattle.casefile.specs.Refusals.{wrong_body}
use Rattle.bodies.specs.Bodies.{BodyDecided}
use Rattle.bodies.specs.declared.Heads.{Heads}
use Rattle.rules.specs.reading.RuleBodies.{rule_of, numbers_of, wrong_at, Judged, RuleRead}
use Rattle.index.specs.layout.Layout.{rules_at}

map_twice : {A B C : Type 0} (g : B → C) (f : A → B) (l : List A) → map g (map f l) ≡ map (λ x. g (f x)) l
map_twice g f [] = refl
map_twice g f (x ∷ l) = ap (g (f x) ∷◌) (map_twice g f l)

-- the nonterminals' sorts by their numbers
pub numbers_sorts : (rs : List Record) → map (λ (n : ℕ). get_or (sorts_of rs) n o) (numbers_of rs) ≡ signatures_of rs
unfolding signatures_of
numbers_sorts rs = map_twice (λ (n : ℕ). get_or (sorts_of rs) n o) (λ (p : List ℕ). word p 0) (payloads nonterminal rs)

-- its length, four bytes before it
length_is : {file index : List ℕ} {heads : Heads} {f : ℕ} (place : ℕ) → place ≡ get_or index (rules_at + f) 0 → (len : ℕ) → HasLength file place len
    → (rules : ℕ) (rs : List Record) → Judged file index heads rules rs → f < rules → len ≡ length (rule_of rs f)
length_is {index = index} {f = f} place ep len el rules rs j h =
    let y : 4 ≤ get_or index (rules_at + f) 0 = j.there.behind_header f h in
    let z : (place - 4) + 4 ≡ get_or index (rules_at + f) 0 = omega arith in
    el.headed (omega arith) ∙ j.there.length_there f (place - 4) h z

module _ {file index : List ℕ} {heads : Heads} {f : ℕ} {before : List ℕ} where
  -- nothing is read, since the arrays hold no such rule
  rule_not : ((rules : ℕ) (rs : List Record) → Judged file index heads rules rs → f < rules → length (rule_of rs f) / 4 ≤ length before → ⊥)
      → RuleRead file index heads f before before None
  rule_not z = record { long = refl; within = λ n e. absurd (cc); fits = λ rules rs j h l n e. absurd (cc); fails = λ rules rs j h l e. absurd (z rules rs j h l) }

  pub rule_none : 255 < f → RuleRead file index heads f before before None
  rule_none x = rule_not (λ rules rs j h l. let y = j.few in omega arith)

  module _ (place : ℕ) (ep : place ≡ get_or index (rules_at + f) 0) where
    module _ (len : ℕ) (el : HasLength file place len) where
      module _ (p : List ℕ) (part : p ≡ part_of file place len) (own : ℕ) (eo : own ≡ get_or heads.signatures.now f 0) (after : List ℕ) (r : Bool) (decided : BodyDecided p heads own before after r) where
        module _ (rules : ℕ) (rs : List Record) (j : Judged file index heads rules rs) (h : f < rules) where
          body_is : p ≡ rule_of rs f
          body_is = part ∙ ap₂ (part_of file) ep (length_is place ep len el rules rs j h) ∙ j.there.payload_there f h

          decided_is : BodyDecided (rule_of rs f) heads (get_or heads.signatures.now f 0) before after r
          decided_is = subst (λ z. BodyDecided (rule_of rs f) heads z before after r) eo
              (subst (λ z. BodyDecided z heads own before after r) body_is decided)

          verdict : length (rule_of rs f) / 4 ≤ length before → r ≡ not (wrong_at rs f)
          verdict l = decided_is.decided (sorts_of rs) (arities_of rs) (numbers_of rs) (j.setting f h) (j.few_nodes f h) l
              ∙ ap₂ (λ (x : List Sort) (y : Sort). not (wrong_body (arities_of rs) x y (rule_of rs f))) (numbers_sorts rs) (j.sort_is f h)

        pub rule_wrong : r ≡ false → RuleRead file index heads f before after None
        rule_wrong e = record {
          long = decided.long;
          within = λ n e. absurd (cc);
          fits = λ rules rs j h l n e. absurd (cc);
          fails = λ rules rs j h l z. not-false (wrong_at rs f) (sym (verdict rules rs j h l) ∙ e);
        }

        pub rule_right : r ≡ true → len / 4 ≤ length before → RuleRead file index heads f before after (Some (len / 4))
        rule_right e room = record {
          long = decided.long;
          within = λ n is. let same : len / 4 ≡ n = cc in omega arith;
          fits = λ rules rs j h l n is. (
            (let same : n ≡ len / 4 = cc in same ∙ ap (λ n. n / 4) (length_is place ep len el rules rs j h)),
            not-true (wrong_at rs f) (sym (verdict rules rs j h l) ∙ e),
            (decided_is rules rs j h).ends_are (sorts_of rs) (arities_of rs) (numbers_of rs) (j.setting f h) (j.few_nodes f h) l e,
          );
          fails = λ rules rs j h l z. absurd (cc);
        }

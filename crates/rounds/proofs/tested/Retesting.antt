-- The test of a binding, and its mark where it fails.
use Prim.Native.Nat.{ℕ, zero, suc, ◌+◌, ◌/◌, ◌%◌, ◌<◌, ◌≤◌}
use native.Mathlib.Omega.{arith}
use native.Mathlib.Decide.{ℕ_discrete}
use mathlib.Core.Path.{◌≡◌, sym, ap, subst, ◌∙◌}
use mathlib.Core.Logic.{◌⊎◌, inl, inr}
use mathlib.Core.Bool.{Bool, true, false, true≢false}
use mathlib.Core.List.{List}
use Rattle.std.specs.Prelude.{Option, None, Some}
use lib.ListN.{length, get_or, drop}
use Rattle.scheme.specs.Flags.{is_kept}
use Rattle.scheme.proofs.Flags.{kept_byte}
use Rattle.casefile.specs.Fields.{field}
use Rattle.index.specs.layout.Layout.{row_limit, test_cells}
use Rattle.marks.specs.Marks.{In, Puts}
use Rattle.answers.specs.Answers.{Under}
use Rattle.term_check.specs.Worlds.{answers_of, users_of}
use Rattle.marks.proofs.briefs.Passing.{in_more}
use Rattle.rounds.specs.tested.Tested.{Same, Freshens, least_or, past_in, Fails, TestsBinding, Spans, Ranged, Retests}
use Rattle.rounds.specs.declared.tested.Sizes.{Sizes}
use Rattle.rounds.specs.declared.tested.Failures.{Failures}
use Rattle.rounds.specs.declared.tested.Course.{Course}
use Rattle.rounds.proofs.tested.Placing.{moved_sets}

-- what a flag says
kept_not : (n : ℕ) → n ≡ 0 → is_kept n ≡ true → ⊥
unfolding is_kept
kept_not zero e k = true≢false (sym k)
kept_not (suc n) e k = omega arith

-- a flag as it is read
flag_is : (kept : List ℕ) (b flag : ℕ) → flag ≡ field 1 kept b → flag ≡ get_or kept b 0
unfolding field
flag_is kept b flag e = omega arith

-- the numbers of a set by word and bit
same_number : (c b : ℕ) → 0 + c / 32 ≡ 0 + b / 32 → c % 32 ≡ b % 32 → c ≡ b
same_number c b e f = omega arith

module _ (t sets firsts : List ℕ) (sizes : Sizes) (kept memo users failed : List ℕ) (n : Course) (b : ℕ) where
  -- a binding that is not kept is not tested
  pub retest_dropped : (flag : ℕ) → flag ≡ field 1 kept b → flag ≡ 0 → Retests t sets firsts sizes kept memo users failed n b memo users failed n
  retest_dropped flag e z =
      record {
        grows = λ i k h x. x;
        more = λ i k h x. x;
        under = λ u. u;
        only = λ c x d. x;
        before = λ h l. omega arith;
        ranged = λ h l long g. g;
        answer = λ rs w ca ro u long h. (λ k no'. absurd (kept_not (get_or kept b 0) (sym (flag_is kept b flag e) ∙ z) k), λ x no'. absurd (no' x));
      }

  module _ (flag : ℕ) (e : flag ≡ field 1 kept b) (ne : flag ≡ 0 → ⊥) (memo₁ : List ℕ) (stamp : ℕ) (new : Freshens memo n.last memo₁ stamp) (users₁ : List ℕ) (eu : users₁ ≡ users) (memo' users' : List ℕ) (r : Bool) (test : TestsBinding t sets firsts sizes memo₁ users₁ stamp b memo' users' r) where
    told : TestsBinding t sets firsts sizes memo₁ users stamp b memo' users' r
    told = subst (λ l. TestsBinding t sets firsts sizes memo₁ l stamp b memo' users' r) eu test

    on : Under memo (n.last + 1) → Under memo' (stamp + 1)
    on u = told.under (new.fresh u)

    -- one that holds
    pub retest_holds : r ≡ true → Retests t sets firsts sizes kept memo users failed n b memo' users' failed (record n { last = stamp })
    retest_holds y =
        record {
          grows = told.grows;
          more = λ i k h x. x;
          under = on;
          only = λ c x d. x;
          before = λ h l. omega arith;
          ranged = λ h l long g. g;
          answer = λ rs w ca ro u long h. (λ k no'. told.yes y rs kept w ca ro (new.fresh u) h, λ x no'. absurd (no' x));
        }

    -- one that fails
    pub retest_fails : r ≡ false → (failed' : List ℕ) → Puts failed 0 b failed' → (a : Course) → Fails n stamp b a → Retests t sets firsts sizes kept memo users failed n b memo' users' failed' a
    retest_fails y failed' p a l =
        record {
          grows = told.grows;
          more = p.grows;
          under = λ u. subst (λ k. Under memo' (k + 1)) (sym l.last_is) (on u);
          only = only;
          before = λ h m. let e = ap past_in l.failures_are in omega arith;
          ranged = λ h m long g. subst (Ranged failed') (sym l.failures_are) (ranged n.failures h m long g);
          answer = λ rs w ca ro u long h. (
            λ k no'. absurd (no' (p.put (let few = w.few_bindings in omega arith))),
            λ x no'. (kept_byte (get_or kept b 0) (λ z. ne (flag_is kept b flag e ∙ z)), told.no y rs kept w ca ro (new.fresh u) h),
          );
        }
      where
        one : (c : ℕ) → (c ≡ b → ⊥) → In failed 0 c ⊎ ((0 + c / 32 ≡ 0 + b / 32) × (c % 32 ≡ b % 32)) → In failed 0 c
        one c d (inl x) = x
        one c d (inr (i, k)) = absurd (d (same_number c b i k))

        only : (c : ℕ) → In failed' 0 c → (c ≡ b → ⊥) → In failed 0 c
        only c x d = one c d (p.only (0 + c / 32) (c % 32) (omega arith) x)

        ranged : (o : Option Failures) → past_in o ≤ b → b < 1024 → 32 ≤ length failed → Ranged failed o → Spans failed' (record { least = least_or b o; past = b % row_limit + 1 })
        ranged None h m long g = record { inside = λ c i. first c i (ℕ_discrete c b); some_failed = p.put (omega arith) }
          where
            first : (c : ℕ) → In failed' 0 c → Dec (c ≡ b) → (b ≤ c) × (c < b % row_limit + 1)
            first c i (yes e) = (omega arith, omega arith)
            first c i (no d) = absurd (g c (only c i d))
        ranged (Some f) h m long g = record { inside = λ c i. later c i (ℕ_discrete c b); some_failed = in_more failed failed' p.grows 0 f.least g.some_failed }
          where
            later : (c : ℕ) → In failed' 0 c → Dec (c ≡ b) → (f.least ≤ c) × (c < b % row_limit + 1)
            later c i (yes e) = let k = g.inside f.least g.some_failed in (omega arith, omega arith)
            later c i (no d) = let k = g.inside c (only c i d) in (omega arith, omega arith)

-- the same by the places and the sets as they stood before
pub retests_from : (r₀ r w w' t firsts : List ℕ) (sizes : Sizes) (kept failed : List ℕ) (n : Course) (b : ℕ) (failed' : List ℕ) (a : Course) → Same r₀ r → Retests t (drop test_cells r) firsts sizes kept (answers_of r w) (users_of r w) failed n b (answers_of r w') (users_of r w') failed' a
    → Retests t (drop test_cells r₀) firsts sizes kept (answers_of r₀ w) (users_of r₀ w) failed n b (answers_of r₀ w') (users_of r₀ w') failed' a
retests_from r₀ r w w' t firsts sizes kept failed n b failed' a s x = moved_sets r₀ r s (λ sets answers users. Retests t sets firsts sizes kept (answers w) (users w) failed n b (answers w') (users w') failed' a) x

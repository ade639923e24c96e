-- The goal that a type becomes with arrows off, where it is one of a set.
use Prim.Native.Nat.{ℕ, ◌%◌, ◌^◌, ◌<◌, ◌≤◌}
use native.Mathlib.Omega.{arith}
use mathlib.Core.Path.{◌≡◌, refl, sym, subst, ◌∙◌}
use mathlib.Core.Bool.{Bool, true, false}
use mathlib.Core.List.{List}
use borrow.Author.Tests.{ltb-true}
use lib.Dec.{ltb}
use Rattle.std.specs.Prelude.{Some, None}
use Rattle.std.specs.Bool.{then_some}
use Rattle.std.proofs.lemmas.Option.{none-some, same_Some}
use Rattle.marks.specs.Marks.{bit_of}
use Rattle.marks.proofs.Bits.{high_bit}
use Rattle.tables.specs.reading.Cells.{off_of}
use Rattle.term_check.specs.heads.Heads.{Wanted}
use Rattle.term_check.specs.masks.Masks.{HasBit}

module _ (t : List ℕ) (goals ty n g : ℕ) (is : g ≡ off_of t n ty) where
  none : ((q : ℕ) → bit_of q goals ≡ 1 → g ≡ q → ⊥) → Wanted t goals ty n None
  none d = record { leads = λ q e. absurd (none-some q e); misses = λ e q b o. d q b (is ∙ o) }

  -- a set has goals below 32 alone
  wanted_past : goals < 2 ^ 32 → 32 ≤ g → Wanted t goals ty n None
  wanted_past small h = none (λ q b e. let z = high_bit q 32 goals small (omega arith) in omega arith)

  pub wanted_beyond : goals < 2 ^ 32 → 32 ≤ g → Wanted t goals ty n (then_some (ltb g 32) g)
  wanted_beyond small h = go (ltb g 32) refl
    where
      go : (b : Bool) → ltb g 32 ≡ b → Wanted t goals ty n (then_some b g)
      go true f = let l = ltb-true g 32 f in absurd (omega arith)
      go false f = wanted_past small h

  module _ (low : g < 32) {b : Bool} (has : HasBit goals g b) where
    wanted_not : b ≡ false → Wanted t goals ty n None
    wanted_not f = none (λ q o e. let y = subst (λ k. bit_of k goals ≡ 1) (let h : q ≡ g % 32 = omega arith in h) o in let z = has.no f in omega arith)

    wanted_is : b ≡ true → Wanted t goals ty n (Some g)
    wanted_is e =
        record {
          leads = λ q f. let same = same_Some g q f in (omega arith, subst (λ k. bit_of k goals ≡ 1) (let h : g % 32 ≡ q = omega arith in h) (has.yes e), sym same ∙ is);
          misses = λ f. absurd (none-some g (sym f));
        }

  pub wanted_where : g < 32 → (b : Bool) → HasBit goals g b → Wanted t goals ty n (then_some b g)
  wanted_where low true has = wanted_is low has refl
  wanted_where low false has = wanted_not low has refl

-- Flags that are counted.
use Prim.Native.Nat.{ℕ, zero, suc, ◌+◌, ◌≤◌}
use native.Mathlib.Omega.{arith}
use native.Mathlib.Nat.{le_of_suc-le-suc}
use mathlib.Core.Path.{◌≡◌, refl, ap, ◌∙◌}
use borrow.Author.Tests.{ne_eqb}
use mathlib.Core.List.{List, [], ◌∷◌}
use lib.ListN.{length, get_or, take}
use lib.Seq.{length-take-le}
use Rattle.std.specs.Prelude.{not, cond, ◌==◌, count_by}
use Rattle.std.proofs.lemmas.List.Sums.{sum_by-cons, count_by-le-length}
use Rattle.scheme.specs.Lists.{keep_if}
use Rattle.scheme.specs.Typing.{Binding}
use Rattle.scheme.specs.Flags.{is_kept, chosen}
use Rattle.casefile.specs.Fields.{field, IsField}
use Rattle.rounds.specs.shrinking.Shrinking.{Counts}

-- a byte as a field
pub byte_is : (s : List ℕ) (i r : ℕ) → IsField 1 s i r → r ≡ get_or s i 0
unfolding field
byte_is s i r is = let v = is.value in omega arith

-- how many of the first flags are no 0
abbrev pub marked_in : List ℕ → ℕ
marked_in fs = count_by (λ f. not (f == 0)) fs

none_chosen : (fs : List ℕ) → 0 ≡ length (chosen {B = Binding} fs [])
unfolding chosen
none_chosen [] = refl
none_chosen (f ∷ fs) = refl

chosen_counted : (fs : List ℕ) (n : ℕ) (bs : List Binding) → length bs ≡ n → n ≤ length fs → marked_in (take n fs) ≡ length (chosen fs bs)
unfolding chosen keep_if is_kept
chosen_counted fs zero [] e h = none_chosen fs
chosen_counted fs zero (b ∷ bs) e h = absurd (omega arith)
chosen_counted fs (suc n) [] e h = absurd (omega arith)
chosen_counted [] (suc n) (b ∷ bs) e h = absurd (omega arith)
chosen_counted (zero ∷ fs) (suc n) (b ∷ bs) e h = chosen_counted fs n bs (omega arith) (le_of_suc-le-suc h)
chosen_counted (suc f ∷ fs) (suc n) (b ∷ bs) e h =
    let i = chosen_counted fs n bs (omega arith) (le_of_suc-le-suc h) in
    let one : marked_in (suc f ∷ take n fs) ≡ 1 + marked_in (take n fs) = sum_by-cons (λ f. cond (not (f == 0)) 1 0) (suc f) (take n fs) ∙ ap (λ v. cond (not v) 1 0 + marked_in (take n fs)) (ne_eqb (suc f) 0 (λ z. omega arith)) in
    one ∙ omega arith

pub counts : (flags : List ℕ) (n r : ℕ) → n ≤ length flags → r ≡ marked_in (take n flags) → Counts flags n r × (r ≤ n)
counts flags n r h e = (
  record { counted = λ bs l room. e ∙ chosen_counted flags n bs l room },
  let few = count_by-le-length (λ f. not (f == 0)) (take n flags) in
      let long = length-take-le n flags h in
      omega arith,
)

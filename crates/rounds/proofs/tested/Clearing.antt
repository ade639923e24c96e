-- Words set to 0, and a number for the next test.
use Prim.Native.Nat.{ℕ, zero, suc, ◌*◌}
use native.Mathlib.Omega.{arith}
use mathlib.Core.Path.{◌≡◌, refl, ap, ◌∙◌}
use mathlib.Core.List.{List}
use lib.ListN.{length, get_or, replicate, length-replicate}
use Rattle.rounds.specs.tested.Tested.{Clears, Freshens}

-- as many words that are 0
pub zeroed : (words words' : List ℕ) → words' ≡ replicate (length words) 0 → Clears words words'
zeroed words words' e = record { long = ap length e ∙ length-replicate (length words) 0; zeros = λ i. ap (λ l. get_or l i 0) e ∙ zeros (length words) i }
  where
    zeros : (n i : ℕ) → ◌≡◌ {A = ℕ} (get_or (replicate n 0) i 0) 0
    zeros zero i = refl
    zeros (suc n) zero = refl
    zeros (suc n) (suc i) = zeros n i

-- the numbers begin again
pub fresh_first : (memo : List ℕ) (last : ℕ) (memo' : List ℕ) → length memo' ≡ length memo → ((i : ℕ) → get_or memo' i 0 ≡ 0) → Freshens memo last memo' 1
fresh_first memo last memo' e z = record { long = e; some_number = omega arith; fresh = λ u i. let k = z (i * 3) in omega arith }

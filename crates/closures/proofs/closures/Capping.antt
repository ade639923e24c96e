-- Numbers that are exact up to 4,096, and their sums.
use Prim.Native.Nat.{ℕ, ◌+◌, ◌-◌, ◌^◌, ◌<◌, ◌≤◌, min}
use native.Mathlib.Omega.{arith}
use native.Mathlib.Decide.{dec_lt}
use mathlib.Core.Path.{◌≡◌}
use Rattle.closures.specs.closures.Promises.{Capped, Adds}
use Rattle.index.specs.layout.Layout.{max_term}

pub capped_same : (v n : ℕ) → v ≡ n → Capped v n
capped_same v n e = record { exact = λ h. e; over = λ h. omega arith }

pub capped_as : {v : ℕ} (m n : ℕ) → m ≡ n → Capped v m → Capped v n
capped_as m n e w = record { exact = λ h. omega (arith, w.exact h); over = λ h. omega (arith, w.over h) }

-- a sum that stops at a bound is exact up to 4,096
pub adds_saturating : {a b r : ℕ} → r ≡ min (a + b) (2 ^ 64 - 1) → Adds a b r
adds_saturating {a} {b} {r} e m n x y =
    record {
      exact = λ k. let l : a ≤ max_term = omega arith in let h : b ≤ max_term = omega arith in omega (arith, x.exact l, y.exact h);
      over = λ k. more (dec_lt max_term a) (dec_lt max_term b) k;
    }
  where
    more : Dec (max_term < a) → Dec (max_term < b) → max_term < r → max_term < m + n
    more (yes l) d k = omega (arith, x.over l)
    more (no l) (yes h) k = omega (arith, y.over h)
    more (no l) (no h) k = omega (arith, x.exact (omega arith), y.exact (omega arith))

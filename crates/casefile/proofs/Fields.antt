-- Facts about fields, for any width.
use Prim.Native.Nat.{ℕ, zero, suc, ◌+◌, ◌*◌, ◌^◌, ◌<◌, ◌≤◌}
use mathlib.Core.Path.{◌≡◌, refl, sym, ap, subst, ◌∙◌}
use mathlib.Core.List.{List, ◌++◌}
use native.Mathlib.Nat.{zero-add, add-zero, suc-add, mul_assoc, mul-le-mul_left, one-le-pow, pow-succ', le_of_suc-le-suc, not-suc-le-zero}
use native.Mathlib.Omega.{arith}
use lib.ListN.{length, get_or, take, drop, get_or-append, get_or-eq_default}
use lib.Pow.{pow-add}
use lib.Seq.{get_or-take, get_or-drop, get_or-append-add}
use Rattle.casefile.specs.Fields.{field, IsField}
use Rattle.casefile.specs.Promises.{Bytes}

-- the value: a field of no byte is 0, of one more a byte and 256 times the field behind it
pub field_none : (s : List ℕ) (i : ℕ) → field 0 s i ≡ 0
unfolding field
field_none s i = refl

pub field_more : (w : ℕ) (s : List ℕ) (i : ℕ) → field (suc w) s i ≡ get_or s i 0 + 256 * field w s (i + 1)
unfolding field
field_more w s i = refl

-- a field of v + w bytes is one of v and, 256 ^ v times, the one of w behind it
pub field_split : (v w : ℕ) (s : List ℕ) (i : ℕ) → field (v + w) s i ≡ field v s i + 256 ^ v * field w s (i + v)
unfolding field
field_split zero w s i = rw (zero-add, add-zero) (omega arith)
field_split (suc v) w s i =
    let ih : field (v + w) s (i + 1) ≡ field v s (i + 1) + 256 ^ v * field w s (i + suc v) = field_split v w s (i + 1) ∙ ap (λ k. field v s (i + 1) + 256 ^ v * field w s k) (omega arith) in
    rw (suc-add, ih, pow-succ', mul_assoc) (omega arith)

-- the bound: a field of w bytes is below 256 ^ w
step_lt : (b r p : ℕ) → b < 256 → r < p → b + 256 * r < 256 * p
step_lt b r p hb hr = omega arith

pub field_lt : (w : ℕ) (s : List ℕ) (i : ℕ) → Bytes s → field w s i < 256 ^ w
unfolding field
field_lt zero s i h = omega arith
field_lt (suc w) s i h = rw pow-succ' (step_lt (get_or s i 0) (field w s (i + 1)) (256 ^ w) (h i) (field_lt w s (i + 1) h))

-- the value tells the bytes
pub field_bytes : (w : ℕ) (s t : List ℕ) (i j : ℕ) → Bytes s → Bytes t → field w s i ≡ field w t j → (k : ℕ) → k < w → get_or s (i + k) 0 ≡ get_or t (j + k) 0
unfolding field
field_bytes zero s t i j hs ht e k h = absurd (not-suc-le-zero h)
field_bytes (suc w) s t i j hs ht e zero h =
    rw (add-zero, add-zero) (let x = hs i in let y = ht j in omega arith)
field_bytes (suc w) s t i j hs ht e (suc k) h =
    let ih = field_bytes w s t (i + 1) (j + 1) hs ht (let x = hs i in let y = ht j in omega arith) k (le_of_suc-le-suc h) in
    ap (λ n. get_or s n 0) (omega arith) ∙ ih ∙ ap (λ n. get_or t n 0) (omega arith)

-- a field of a part of a list is a field of the list
pub field_part : (w : ℕ) (s : List ℕ) (k n i : ℕ) → i + w ≤ n → field w (take n (drop k s)) i ≡ field w s (k + i)
unfolding field
field_part zero s k n i h = refl
field_part (suc w) s k n i h =
    rw (get_or-take n (drop k s) i 0 (omega arith), get_or-drop, field_part w s k n (i + 1) (omega arith))
    (ap (λ m. get_or s (k + i) 0 + 256 * field w s m) (omega arith))

-- a field of two lists one behind the other: in the first, and in the second
pub field_front : (w : ℕ) (a b : List ℕ) (i : ℕ) → i + w ≤ length a → field w (a ++ b) i ≡ field w a i
unfolding field
field_front zero a b i h = refl
field_front (suc w) a b i h = rw (get_or-append a b 0 i (omega arith), field_front w a b (i + 1) (omega arith)) refl

pub field_behind : (w : ℕ) (a b : List ℕ) (i : ℕ) → field w (a ++ b) (length a + i) ≡ field w b i
unfolding field
field_behind zero a b i = refl
field_behind (suc w) a b i = rw (get_or-append-add, ← field_behind w a b (i + 1)) (ap (λ m. get_or b i 0 + 256 * field w (a ++ b) m) (omega arith))

-- a field past the end is 0
pub field_out : (w : ℕ) (s : List ℕ) (i : ℕ) → length s ≤ i → field w s i ≡ 0
unfolding field
field_out zero s i h = refl
field_out (suc w) s i h = rw (get_or-eq_default s 0 h, field_out w s (i + 1) (omega arith))

-- the number 0 is any field past the end
pub is_field_out : (w : ℕ) (s : List ℕ) (i : ℕ) → length s ≤ i → IsField w s i 0
is_field_out w s i h = record { value = sym (field_out w s i h); bound = one-le-pow w 256 (omega arith) }

-- the number in a byte is the field of that byte
pub is_field_one : (s : List ℕ) (i b : ℕ) → b ≡ get_or s i 0 → b < 256 → IsField 1 s i b
unfolding field
is_field_one s i b e h = record { value = omega arith; bound = omega arith }

join_lt : (p q a b : ℕ) → a < p → b < q → a + p * b < p * q
join_lt p q a b ha hb = let m : p * suc b ≤ p * q = mul-le-mul_left p hb in omega arith

-- two fields side by side are one field
pub is_field_join : (v w : ℕ) (s : List ℕ) (i a b : ℕ) → IsField v s i a → IsField w s (i + v) b → IsField (v + w) s i (a + 256 ^ v * b)
is_field_join v w s i a b x y =
    record {
      value = rw (field_split, ← x.value, ← y.value);
      bound = rw pow-add (join_lt (256 ^ v) (256 ^ w) a b x.bound y.bound);
    }

-- the last byte, or none, as a field of two
pub is_field_last : (s : List ℕ) (i r : ℕ) → length s ≤ i + 1 → IsField 1 s i r → IsField 2 s i r
is_field_last s i r h is =
    let e : r + 256 ^ 1 * 0 ≡ r = omega arith in
    subst (IsField 2 s i) e (is_field_join 1 1 s i r 0 is (is_field_out 1 s (i + 1) h))

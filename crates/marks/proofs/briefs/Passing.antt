-- Numbers that are marked: a number whose word is not in the brief is passed with its word.
use Prim.Native.Nat.{ℕ, ◌+◌, ◌-◌, ◌*◌, ◌/◌, ◌%◌, ◌^◌, ◌<◌, ◌≤◌, min}
use native.Mathlib.Omega.{arith}
use native.Mathlib.Decide.{dec_lt}
use mathlib.Core.Path.{◌≡◌, sym, ap, ◌∙◌}
use mathlib.Core.List.{List}
use lib.Count.{count_trailing_zeros}
use lib.ListN.{get_or}
use Rattle.marks.specs.Marks.{bit_of, In}
use Rattle.marks.specs.briefs.Briefs.{Marked, FindsMarked}
use Rattle.marks.proofs.Bits.{zero_bit, shift_bit, zeros_below}
use Rattle.marks.proofs.Sets.{Passed}

-- what is in a set, and what is marked, stays so where no bit is lost
module _ (words after : List ℕ) (more : (i k : ℕ) → k < 32 → bit_of k (get_or words i 0) ≡ 1 → bit_of k (get_or after i 0) ≡ 1) where
  pub in_more : (at n : ℕ) → In words at n → In after at n
  in_more at n h = more (at + n / 32) (n % 32) (omega arith) h

  pub marked_more : (at brief n : ℕ) → Marked words at brief n → Marked after at brief n
  marked_more at brief n (few, a, b) = (few, in_more at n a, more brief (n / 32) (omega arith) b)

-- no number from the first on and below n is marked
pub record Passes (words : List ℕ) (at brief from n : ℕ) : Type 0 where
  pub on : from ≤ n
  pub none : (m : ℕ) → from ≤ m → m < n → Marked words at brief m → ⊥

-- those that are not in the set are passed
pub passes_on : {words : List ℕ} {at brief from n n' : ℕ} → Passes words at brief from n → Passed words at n n' → Passes words at brief from n'
passes_on {words} {at} {brief} {from} {n} {n'} p q = record { on = omega (arith, p.on, q.on); none = λ m h l i. go m h l i (dec_lt m n) }
  where
    go : (m : ℕ) → from ≤ m → m < n' → Marked words at brief m → Dec (m < n) → ⊥
    go m h l i (yes b) = p.none m h b i
    go m h l i (no b) = q.none m (omega arith) l i.1

pub marked_end : {words : List ℕ} {at brief from n : ℕ} → Passes words at brief from n → (end : ℕ) → end ≤ n → FindsMarked words at brief from end end
marked_end p end h = record { within = omega arith; passed = λ m f l. p.none m f (omega arith); found = λ l. absurd (omega arith) }

pub marked_lowest : {words : List ℕ} {at brief from n : ℕ} → Passes words at brief from n → (end r : ℕ) → r ≡ min end n → FindsMarked words at brief from end r
marked_lowest p end r e = record { within = omega arith; passed = λ m f l. p.none m f (omega arith); found = λ l. omega (arith, p.on) }

-- behind k words, by the brief
module _ {words : List ℕ} {at brief from n : ℕ} (k : ℕ) (p : Passes words at brief from n) (e : n ≡ k * 32) (word : ℕ) (is : word ≡ get_or words (brief + 0) 0) where
  bit_there : (m : ℕ) → Marked words at brief m → bit_of (m / 32) word ≡ 1
  bit_there m i = let same : brief + 0 ≡ brief = omega arith in ap (bit_of (m / 32)) (is ∙ ap (λ x. get_or words x 0) same) ∙ i.2

  -- the word of each number from n on below the next one has no bit
  beyond : (n' : ℕ) → ((j : ℕ) → k ≤ j → j * 32 < n' → bit_of j word ≡ 0) → (m : ℕ) → from ≤ m → m < n' → Marked words at brief m → ⊥
  beyond n' z m h l i = go (dec_lt m n)
    where
      go : Dec (m < n) → ⊥
      go (yes b) = p.none m h b i
      go (no b) = let none = z (m / 32) (omega arith) (omega arith) in let some = bit_there m i in omega arith

  all_passed : (end : ℕ) → ((j : ℕ) → k ≤ j → j * 32 < end → bit_of j word ≡ 0) → FindsMarked words at brief from end end
  all_passed end z = record { within = omega arith; passed = beyond end z; found = λ l. absurd (omega arith) }

  pub brief_past : 32 ≤ k → (end : ℕ) → FindsMarked words at brief from end end
  brief_past far end = record { within = omega arith; passed = λ m h l i. go m h i (dec_lt m n); found = λ l. absurd (omega arith) }
    where
      go : (m : ℕ) → from ≤ m → Marked words at brief m → Dec (m < n) → ⊥
      go m h i (yes b) = p.none m h b i
      go m h i (no b) = let few = i.0 in omega arith

  shifted_down : (j : ℕ) → k ≤ j → bit_of j word ≡ bit_of (j - k) (word / 2 ^ k)
  shifted_down j l = let back : k + (j - k) ≡ j = omega arith in sym (shift_bit (j - k) k word ∙ ap (λ x. bit_of x word) back)

  pub brief_ends : word / 2 ^ k ≡ 0 → (end : ℕ) → FindsMarked words at brief from end end
  brief_ends empty end = all_passed end (λ j l b. shifted_down j l ∙ ap (bit_of (j - k)) empty ∙ zero_bit (j - k))

  pub passes_brief : Passes words at brief from ((k + count_trailing_zeros 32 (word / 2 ^ k)) * 32)
  passes_brief = record { on = omega (arith, p.on); none = beyond ((k + count_trailing_zeros 32 (word / 2 ^ k)) * 32) (λ j l b. shifted_down j l ∙ zeros_below 32 (word / 2 ^ k) (j - k) (omega arith)) }

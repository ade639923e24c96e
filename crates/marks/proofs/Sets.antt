-- Sets of numbers as the bits of words. A store changes one word, and in it one bit, so every other bit is as it was. A
-- search that has passed all numbers below n looks at what is left of n's word: its bits are the numbers from n on.
use Prim.Native.Nat.{ℕ, ◌+◌, ◌-◌, ◌/◌, ◌%◌, ◌^◌, ◌<◌, ◌≤◌, min}
use native.Mathlib.Omega.{arith}
use native.Mathlib.Decide.{dec_lt, ℕ_discrete}
use mathlib.Core.Path.{◌≡◌, refl, sym, ap, subst, ◌∙◌}
use mathlib.Core.Logic.{◌⊎◌, inl, inr}
use mathlib.Core.List.{List}
use lib.Bits.{bit_and, bit_or}
use lib.Count.{count_trailing_zeros}
use lib.ListN.{length, get_or, set, length-set, get_or-eq_default}
use lib.Pow.{shr_lt}
use lib.Seq.{get_or-set_same, get_or-set_other}
use Rattle.marks.specs.Marks.{bit_of, In, Puts, TakesOut, FindsNext}
use Rattle.marks.proofs.Bits.{bit_small, zero_bit, shift_bit, or_bit, or_none, minus_bit, power_same, power_other, shifted, shifted_is, zeros_below, zeros_end, zeros_few}

-- 1 shifted to the left has one bit
pub shifted_same : (k : ℕ) → k < 32 → bit_of k (shifted k) ≡ 1
shifted_same k h = ap (bit_of k) (shifted_is k h) ∙ power_same k

pub shifted_other : (k j : ℕ) → j < 32 → (k ≡ j → ⊥) → bit_of k (shifted j) ≡ 0
shifted_other k j h d = ap (bit_of k) (shifted_is j h) ∙ power_other k j d

-- a word with bit j put in: bit j is in it, those that were in it are, and no other
module _ (w j : ℕ) (h : j < 32) where
  pub put_same : bit_of j (bit_or w (shifted j)) ≡ 1
  put_same = let o = or_bit j w (shifted j) in let s = shifted_same j h in let small = bit_small j w in omega arith

  pub put_grows : (k : ℕ) → bit_of k w ≡ 1 → bit_of k (bit_or w (shifted j)) ≡ 1
  put_grows k e = let o = or_bit k w (shifted j) in let small = bit_small k (shifted j) in omega arith

  pub put_only : (k : ℕ) → bit_of k (bit_or w (shifted j)) ≡ 1 → (bit_of k w ≡ 1) ⊎ (k ≡ j)
  put_only k e = go (ℕ_discrete k j)
    where
      go : Dec (k ≡ j) → (bit_of k w ≡ 1) ⊎ (k ≡ j)
      go (yes s) = inr s
      go (no d) = let o = or_bit k w (shifted j) in let z = shifted_other k j h d in inl (omega arith)

  -- a word with bit j taken out: bit j is not in it, those that are in it were, and all others are
  pub out_same : bit_of j (w - bit_and w (shifted j)) ≡ 0
  out_same = let o = minus_bit j w (shifted j) in let s = shifted_same j h in let small = bit_small j w in omega arith

  pub out_fewer : (k : ℕ) → bit_of k (w - bit_and w (shifted j)) ≡ 1 → bit_of k w ≡ 1
  out_fewer k e = let o = minus_bit k w (shifted j) in let small = bit_small k w in omega arith

  pub out_stays : (k : ℕ) → bit_of k w ≡ 1 → (bit_of k (w - bit_and w (shifted j)) ≡ 1) ⊎ (k ≡ j)
  out_stays k e = go (ℕ_discrete k j)
    where
      go : Dec (k ≡ j) → (bit_of k (w - bit_and w (shifted j)) ≡ 1) ⊎ (k ≡ j)
      go (yes s) = inr s
      go (no d) = let o = minus_bit k w (shifted j) in let z = shifted_other k j h d in inl (omega arith)

-- what is so of the word stored, and of each word as it was, is so of each word after a store
pub stored : (P : ℕ → ℕ → Type 0) (l : List ℕ) (i v : ℕ) → i < length l → P i v → ((j : ℕ) → P j (get_or l j 0)) → (j : ℕ) → P j (get_or (set l i v) j 0)
stored P l i v h new old j = go (ℕ_discrete j i)
  where
    go : Dec (j ≡ i) → P j (get_or (set l i v) j 0)
    go (no d) = subst (P j) (sym (get_or-set_other l i j v 0 d)) (old j)
    go (yes e) = subst (λ x. P x (get_or (set l i v) x 0)) (sym e) (subst (P i) (sym (get_or-set_same l i v 0 h)) new)

module _ (words : List ℕ) (at n : ℕ) where
  pub puts_past : length words ≤ at + n / 32 → Puts words at n words
  puts_past h = record { long = refl; put = λ l. absurd (omega arith); grows = λ i k l e. e; only = λ i k l e. inl e }

  pub takes_past : length words ≤ at + n / 32 → TakesOut words at n words
  takes_past h =
      record {
        long = refl;
        gone = λ e. let z = zero_bit (n % 32) in let o = ap (bit_of (n % 32)) (get_or-eq_default words 0 {n = at + n / 32} h) in omega arith;
        fewer = λ i k l e. e;
        stays = λ i k l e. inl e;
      }

  module _ (h : at + n / 32 < length words) where
    small : n % 32 < 32
    small = omega arith

    pub puts_here : Puts words at n (set words (at + n / 32) (bit_or (get_or words (at + n / 32) 0) (shifted (n % 32))))
    puts_here =
        record {
          long = length-set words i v;
          put = λ l. ap (bit_of (n % 32)) (get_or-set_same words i v 0 h) ∙ put_same w (n % 32) small;
          grows = λ j k l. stored Grows words i v h (put_grows w (n % 32) small) (λ x k e. e) j k;
          only = λ j k l. stored Only words i v h (λ k e. whose k (put_only w (n % 32) small k e)) (λ x k e. inl e) j k;
        }
      where
        i : ℕ
        i = at + n / 32

        w : ℕ
        w = get_or words i 0

        v : ℕ
        v = bit_or w (shifted (n % 32))

        Grows : ℕ → ℕ → Type 0
        Grows j x = (k : ℕ) → bit_of k (get_or words j 0) ≡ 1 → bit_of k x ≡ 1

        Only : ℕ → ℕ → Type 0
        Only j x = (k : ℕ) → bit_of k x ≡ 1 → (bit_of k (get_or words j 0) ≡ 1) ⊎ ((j ≡ i) × (k ≡ n % 32))

        whose : (k : ℕ) → (bit_of k w ≡ 1) ⊎ (k ≡ n % 32) → (bit_of k w ≡ 1) ⊎ ((i ≡ i) × (k ≡ n % 32))
        whose k (inl e) = inl e
        whose k (inr e) = inr (refl, e)

    pub takes_here : TakesOut words at n (set words (at + n / 32) (get_or words (at + n / 32) 0 - bit_and (get_or words (at + n / 32) 0) (shifted (n % 32))))
    takes_here =
        record {
          long = length-set words i v;
          gone = λ e. let g = ap (bit_of (n % 32)) (get_or-set_same words i v 0 h) in let z = out_same w (n % 32) small in omega arith;
          fewer = λ j k l. stored Fewer words i v h (out_fewer w (n % 32) small) (λ x k e. e) j k;
          stays = λ j k l. stored Stays words i v h (λ k e. whose k (out_stays w (n % 32) small k e)) (λ x k e. inl e) j k;
        }
      where
        i : ℕ
        i = at + n / 32

        w : ℕ
        w = get_or words i 0

        v : ℕ
        v = w - bit_and w (shifted (n % 32))

        Fewer : ℕ → ℕ → Type 0
        Fewer j x = (k : ℕ) → bit_of k x ≡ 1 → bit_of k (get_or words j 0) ≡ 1

        Stays : ℕ → ℕ → Type 0
        Stays j x = (k : ℕ) → bit_of k (get_or words j 0) ≡ 1 → (bit_of k x ≡ 1) ⊎ ((j ≡ i) × (k ≡ n % 32))

        whose : (k : ℕ) → (bit_of k v ≡ 1) ⊎ (k ≡ n % 32) → (bit_of k v ≡ 1) ⊎ ((i ≡ i) × (k ≡ n % 32))
        whose k (inl e) = inl e
        whose k (inr e) = inr (refl, e)

-- what is left of n's word: its bits are the numbers from n on to the end of the word
module _ (words : List ℕ) (at n j : ℕ) (near : n % 32 + j < 32) where
  same_bit : (word : ℕ) → word ≡ get_or words (at + n / 32) 0 → bit_of ((n + j) % 32) (get_or words (at + (n + j) / 32) 0) ≡ bit_of j (word / 2 ^ (n % 32))
  same_bit word e =
      let place : (n + j) % 32 ≡ n % 32 + j = omega arith in
      let there : (n + j) / 32 ≡ n / 32 = omega arith in
      ap (λ x. bit_of x (get_or words (at + (n + j) / 32) 0)) place ∙ ap (λ x. bit_of (n % 32 + j) (get_or words (at + x) 0)) there ∙ ap (bit_of (n % 32 + j)) (sym e) ∙ sym (shift_bit j (n % 32) word)

-- no number from the first on and below n is in the set
pub record Passed (words : List ℕ) (at from n : ℕ) : Type 0 where
  pub on : from ≤ n
  pub none : (m : ℕ) → from ≤ m → m < n → In words at m → ⊥

pub passed_none : (words : List ℕ) (at from : ℕ) → Passed words at from from
passed_none words at from = record { on = omega arith; none = λ m h l. absurd (omega arith) }

-- the numbers passed go on, as long as what is left of n's word has no bit there
module _ {words : List ℕ} {at from n : ℕ} (p : Passed words at from n) (word : ℕ) (e : word ≡ get_or words (at + n / 32) 0) where
  passed_on : (t : ℕ) → n % 32 + t ≤ 32 → ((j : ℕ) → j < t → bit_of j (word / 2 ^ (n % 32)) ≡ 0) → (m : ℕ) → from ≤ m → m < n + t → In words at m → ⊥
  passed_on t near z m h l i = go (dec_lt m n)
    where
      go : Dec (m < n) → ⊥
      go (yes b) = p.none m h b i
      go (no b) =
          let is : n + (m - n) ≡ m = omega arith in
          let s = same_bit words at n (m - n) (omega arith) word e in
          let o = subst (λ x. In words at x) (sym is) i in
          let none = z (m - n) (omega arith) in
          omega arith

  -- the rest of the word is empty
  module _ (empty : word / 2 ^ (n % 32) ≡ 0) where
    pub passed_word : Passed words at from (n + (32 - n % 32))
    passed_word = record { on = omega (arith, p.on); none = passed_on (32 - n % 32) (omega arith) (λ j l. ap (bit_of j) empty ∙ zero_bit j) }

  -- the rest of the word is not empty, and its lowest bit is the next number
  module _ (bound : word < 2 ^ 32) (full : word / 2 ^ (n % 32) ≡ 0 → ⊥) where
    few : n % 32 + count_trailing_zeros 32 (word / 2 ^ (n % 32)) < 32
    few =
        let all : 32 - n % 32 + n % 32 ≡ 32 = omega arith in
        let low : word / 2 ^ (n % 32) < 2 ^ (32 - n % 32) = shr_lt (32 - n % 32) (n % 32) (subst (λ x. word < 2 ^ x) (sym all) bound) in
        let t = zeros_few (32 - n % 32) 32 (word / 2 ^ (n % 32)) low full in
        omega arith

    pub passed_zeros : Passed words at from (n + count_trailing_zeros 32 (word / 2 ^ (n % 32)))
    passed_zeros = let f = few in record { on = omega (arith, p.on); none = passed_on (count_trailing_zeros 32 (word / 2 ^ (n % 32))) (omega arith) (zeros_below 32 (word / 2 ^ (n % 32))) }

    next_in_law : In words at (n + count_trailing_zeros 32 (word / 2 ^ (n % 32)))
    next_in_law = let f = few in same_bit words at n (count_trailing_zeros 32 (word / 2 ^ (n % 32))) f word e ∙ zeros_end 32 (word / 2 ^ (n % 32)) (omega arith)

    pub finds_lowest : (end r : ℕ) → r ≡ min end (n + count_trailing_zeros 32 (word / 2 ^ (n % 32))) → FindsNext words at from end r
    finds_lowest end r er =
        record {
          within = omega arith;
          passed = λ m h l. passed_zeros.none m h (omega arith);
          found = λ l. let is : n + count_trailing_zeros 32 (word / 2 ^ (n % 32)) ≡ r = omega arith in (omega (arith, passed_zeros.on), subst (In words at) is next_in_law);
        }

-- where what k words have together is nothing, no bit is in them; one word more
pub record Quiets (words : List ℕ) (i all k : ℕ) : Type 0 where
  pub none : all ≡ 0 → (j : ℕ) → j < k → get_or words (i + j) 0 ≡ 0

pub quiet_more : {words : List ℕ} {i all k : ℕ} → Quiets words i all k → Quiets words i (bit_or all (get_or words (i + k) 0)) (k + 1)
quiet_more {words} {i} {all} {k} q = record { none = λ e j h. let both = or_none all (get_or words (i + k) 0) e in go both.0 both.1 j h (ℕ_discrete j k) }
  where
    go : all ≡ 0 → get_or words (i + k) 0 ≡ 0 → (j : ℕ) → j < k + 1 → Dec (j ≡ k) → get_or words (i + j) 0 ≡ 0
    go a w j h (yes s) = ap (λ x. get_or words (i + x) 0) s ∙ w
    go a w j h (no d) = q.none a j (omega arith)

-- the numbers of those words are passed where n is the first of them
pub passed_quiet : {words : List ℕ} {at from n : ℕ} → Passed words at from n → n % 32 ≡ 0 → ((k : ℕ) → k < 8 → get_or words (at + n / 32 + k) 0 ≡ 0) → Passed words at from (n + 256)
passed_quiet {words} {at} {from} {n} p first q = record { on = omega (arith, p.on); none = none }
  where
    none : (m : ℕ) → from ≤ m → m < n + 256 → In words at m → ⊥
    none m h l i = go (dec_lt m n)
      where
        go : Dec (m < n) → ⊥
        go (yes b) = p.none m h b i
        go (no b) =
            let is : at + n / 32 + (m / 32 - n / 32) ≡ at + m / 32 = omega arith in
            let z = q (m / 32 - n / 32) (omega arith) in
            let o = ap (λ x. bit_of (m % 32) (get_or words x 0)) is in
            let w = ap (bit_of (m % 32)) z ∙ zero_bit (m % 32) in
            omega arith

-- all numbers below the end are passed
pub finds_end : {words : List ℕ} {at from n : ℕ} → Passed words at from n → (end : ℕ) → end ≤ n → FindsNext words at from end end
finds_end p end h = record { within = omega arith; passed = λ m f l. p.none m f (omega arith); found = λ l. absurd (omega arith) }

-- a search that goes on from n
pub finds_on : {words : List ℕ} {at from n end r : ℕ} → Passed words at from n → FindsNext words at n end r → FindsNext words at from end r
finds_on {words} {at} {from} {n} {end} {r} p f = record { within = f.within; passed = λ m h l i. go m h l i (dec_lt m n); found = λ l. let (a, b) = f.found l in (omega (arith, p.on), b) }
  where
    go : (m : ℕ) → from ≤ m → m < r → In words at m → Dec (m < n) → ⊥
    go m h l i (yes b) = p.none m h b i
    go m h l i (no b) = f.passed m (omega arith) l i

-- Sets of goals below 32 as the bits of a word.
use Prim.Native.Nat.{ℕ, ◌*◌, ◌/◌, ◌%◌, ◌^◌, ◌<◌, ◌≤◌}
use native.Mathlib.Omega.{arith}
use native.Mathlib.Decide.{dec_lt, ℕ_discrete}
use mathlib.Core.Path.{◌≡◌, sym, ap, subst, ◌∙◌}
use mathlib.Core.Logic.{◌⊎◌, inl, inr}
use borrow.Author.Tests.{eqb-true, eqb-false}
use lib.Bits.{bit_and, and_le_l}
use lib.Count.{count_trailing_zeros}
use lib.Dec.{eqb}
use mir.Syntax.{w32}
use Rattle.std.specs.Int.{bit_not}
use Rattle.std.proofs.lemmas.Nat.Bits.{bit_at_not, bit_at_clear_same, bit_at_clear_other}
use Rattle.marks.specs.Marks.{bit_of}
use Rattle.marks.proofs.Bits.{bit_small, bit_two, high_bit, and_bit, zeros_end, zeros_few}
use Rattle.term_check.specs.masks.Masks.{HasBit, Lowest, TakesOut, Leaves}

pub lowest_bit : (word : ℕ) → word < 2 ^ 32 → Lowest word (count_trailing_zeros 32 word)
lowest_bit word h = record { within = zeros_few 32 32 word h; has = λ nz. zeros_end 32 word (zeros_few 32 32 word h nz) }

module _ (word k : ℕ) (few : word < 2 ^ 32) where
  low : k % 32 < 32
  low = omega arith

  here : k < 32 → k % 32 ≡ k
  here h = omega arith

  abbrev pub r : ℕ
  r = bit_and word (bit_not w32 (1 * 2 ^ (k % 32) % 2 ^ 32))

  kept : (j : ℕ) → bit_of j r ≡ 1 → bit_of j word ≡ 1
  kept j e = let m = and_bit j word (bit_not w32 (1 * 2 ^ (k % 32) % 2 ^ 32)) in let s = bit_small j word in omega arith

  out : bit_of (k % 32) r ≡ 0
  out = bit_at_clear_same w32 word (k % 32) low

  pub bit_out : TakesOut word k r
  bit_out =
      record {
        fewer = kept;
        stays = λ h j e. others h j e (dec_lt j 32) (ℕ_discrete j k);
        gone = λ h. subst (λ i. bit_of i r ≡ 0) (here h) out;
        less = λ h e. smaller (subst (λ i. bit_of i word ≡ 1) (sym (here h)) e);
      }
    where
      others : k < 32 → (j : ℕ) → bit_of j word ≡ 1 → Dec (j < 32) → Dec (j ≡ k) → (bit_of j r ≡ 1) ⊎ (j ≡ k)
      others h j e (no l) d = let z = high_bit j 32 word few (omega arith) in absurd (omega arith)
      others h j e (yes l) (yes same) = inr same
      others h j e (yes l) (no d) = inl (bit_at_clear_other w32 word (k % 32) low j l (λ f. d (f ∙ here h)) ∙ e)

      smaller : bit_of (k % 32) word ≡ 1 → r < word
      smaller e =
          let le = and_le_l word (bit_not w32 (1 * 2 ^ (k % 32) % 2 ^ 32)) in
          go (dec_lt r word) le
        where
          go : Dec (r < word) → r ≤ word → r < word
          go (yes h) le = h
          go (no n) le = let same : r ≡ word = omega arith in let z = out in let f = ap (bit_of (k % 32)) same in absurd (omega arith)

pub bits_left : (word other : ℕ) → word < 2 ^ 32 → other < 2 ^ 32 → Leaves word other (bit_and word (bit_not w32 other))
bits_left word other few small =
    record {
      within = λ j e. let m = and_bit j word (bit_not w32 other) in let s = bit_small j word in omega arith;
      all = λ j e. go j e (dec_lt j 32);
    }
  where
    go : (j : ℕ) → bit_of j word ≡ 1 → Dec (j < 32) → (bit_of j (bit_and word (bit_not w32 other)) ≡ 1) ⊎ (bit_of j other ≡ 1)
    go j e (no l) = let z = high_bit j 32 word few (omega arith) in absurd (omega arith)
    go j e (yes l) = by (bit_two j other)
      where
        by : (bit_of j other ≡ 0) ⊎ (bit_of j other ≡ 1) → (bit_of j (bit_and word (bit_not w32 other)) ≡ 1) ⊎ (bit_of j other ≡ 1)
        by (inr o) = inr o
        by (inl z) = let m = and_bit j word (bit_not w32 other) in let n = bit_at_not w32 other j small l in inl (omega arith)

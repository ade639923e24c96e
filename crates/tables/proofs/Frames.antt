-- Tables of which one part changed; a store changes one cell. A word with one bit more.
use Prim.Native.Nat.{ℕ, ◌+◌, ◌-◌, ◌%◌, ◌^◌, ◌<◌, ◌≤◌}
use native.Mathlib.Omega.{arith}
use native.Mathlib.Decide.{dec_lt}
use mathlib.Core.Path.{◌≡◌, refl, sym, ap, subst, ◌∙◌}
use mathlib.Core.Logic.{◌⊎◌}
use mathlib.Core.List.{List}
use lib.Bits.{bit_or, or_lt}
use lib.ListN.{length, get_or, set, length-set}
use lib.Pow.{pow-lt}
use lib.Seq.{get_or-set_other}
use Rattle.index.specs.layout.Layout.{row_limit, row_cells}
use Rattle.index.specs.enter.Entering.{stored}
use Rattle.index.proofs.enter.Storing.{stored_set, stored_length, stored_here, stored_other}
use Rattle.marks.specs.Marks.{bit_of}
use Rattle.marks.proofs.Bits.{shifted, shifted_is}
use Rattle.marks.proofs.Sets.{put_same, put_grows, put_only}
use Rattle.tables.specs.Frames.{Within, Adds}
use Rattle.tables.specs.reading.Cells.{row_at, cell_of}

pub within_none : {lo hi : ℕ} {t : List ℕ} → Within lo hi t t
within_none = record { long = refl; outside = λ i n. refl }

pub within_then : {lo hi : ℕ} {a b c : List ℕ} → Within lo hi a b → Within lo hi b c → Within lo hi a c
within_then x y = record { long = y.long ∙ x.long; outside = λ i n. y.outside i n ∙ x.outside i n }

pub within_wider : {lo hi : ℕ} (lo' hi' : ℕ) {a b : List ℕ} → lo' ≤ lo → hi ≤ hi' → Within lo hi a b → Within lo' hi' a b
within_wider lo' hi' l h x = record { long = x.long; outside = λ i n. x.outside i (λ p q. n (omega arith) (omega arith)) }

-- a cell is in one row
pub row_apart : (p q k l : ℕ) → p < row_limit → q < row_limit → k < row_cells → l < row_cells → row_at p + k ≡ row_at q + l → p ≡ q
row_apart p q k l hp hq hk hl e = go (dec_lt p q) (dec_lt q p)
  where
    go : Dec (p < q) → Dec (q < p) → p ≡ q
    go (yes a) d = absurd (omega arith)
    go (no a) (yes b) = absurd (omega arith)
    go (no a) (no b) = omega arith

-- a row that did not change
pub other_row : {q : ℕ} {a b : List ℕ} → Within (row_at q) (row_at q + row_cells) a b → (p k : ℕ) → p < row_limit → q < row_limit → k < row_cells → (p ≡ q → ⊥) → cell_of b p k ≡ cell_of a p k
other_row {q} w p k hp hq hk ne = w.outside (row_at p + k) (λ x y. ne (let e : row_at p + k ≡ row_at q + (row_at p + k - row_at q) = omega arith in row_apart p q k (row_at p + k - row_at q) hp hq hk (omega arith) e))

-- a number of two bytes set is stored
pub stores : (t : List ℕ) (i v : ℕ) → v < 65536 → set t i v ≡ stored t i v
stores t i v h = sym (stored_set t i v h)

-- a cell set
pub within_set : {lo hi : ℕ} (t : List ℕ) (i v : ℕ) → lo ≤ i → i < hi → Within lo hi t (set t i v)
within_set t i v l h = record { long = length-set t i v; outside = λ j n. get_or-set_other t i j v 0 (λ z. n (omega arith) (omega arith)) }

-- a store
pub record Put (t : List ℕ) (i v : ℕ) (after : List ℕ) : Type 0 where
  pub is : after ≡ stored t i v

module _ {t after : List ℕ} {i v : ℕ} (p : Put t i v after) where
  pub store_long : length after ≡ length t
  store_long = ap length p.is ∙ stored_length t i v

  pub store_here : v < 65536 → i < length t → get_or after i 0 ≡ v
  store_here h l = ap (λ (b : List ℕ). get_or b i 0) p.is ∙ stored_here t i v h l

  pub store_other : (j : ℕ) → (j ≡ i → ⊥) → get_or after j 0 ≡ get_or t j 0
  store_other j ne = ap (λ (b : List ℕ). get_or b j 0) p.is ∙ stored_other t i v j ne

  pub within_store : {lo hi : ℕ} → lo ≤ i → i < hi → Within lo hi t after
  within_store l h = record { long = store_long; outside = λ j n. store_other j (λ z. n (omega arith) (omega arith)) }

-- a bit put into a word of 16 bits
pub adds : (w k : ℕ) → Adds w k (bit_or w (shifted (k % 32)))
adds w k =
    record {
      small = λ h l.
          let low : k % 32 ≡ k = omega arith in
          let p : 2 ^ k < 2 ^ 16 = pow-lt l in
          let e : shifted (k % 32) ≡ 2 ^ k = ap shifted low ∙ shifted_is k (omega arith) in
          subst (λ x. bit_or w x < 65536) (sym e) (or_lt 16 w (2 ^ k) h p);
      fits = λ h.
          let l : k % 32 < 32 = omega arith in
          let p : 2 ^ (k % 32) < 2 ^ 32 = pow-lt l in
          subst (λ x. bit_or w x < 4294967296) (sym (shifted_is (k % 32) (omega arith))) (or_lt 32 w (2 ^ (k % 32)) h p);
      put = λ l. subst (λ j. bit_of j (bit_or w (shifted (k % 32))) ≡ 1) (low l) (put_same w (k % 32) (omega arith));
      turned = put_same w (k % 32) (omega arith);
      grows = λ q h. put_grows w (k % 32) (omega arith) q h;
      only = λ l q h. subst (λ j. (bit_of q w ≡ 1) ⊎ (q ≡ j)) (low l) (put_only w (k % 32) (omega arith) q h);
    }
  where
    low : k < 32 → k % 32 ≡ k
    low l = omega arith

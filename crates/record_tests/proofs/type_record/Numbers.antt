-- The numbers of a type, one after the other: whether they ascend, and whether one is too high.
use Prim.Native.Nat.{ℕ, zero, suc, ◌+◌, ◌-◌, ◌*◌, ◌/◌, ◌%◌, ◌<◌, ◌≤◌}
use native.Mathlib.Omega.{arith}
use native.Mathlib.Decide.{dec_le}
use mathlib.Core.Path.{◌≡◌, refl, sym, ap, ◌∙◌}
use mathlib.Core.Bool.{true, false, ◌&&◌, ◌||◌, or-false}
use mathlib.Core.List.{List, [], ◌∷◌, ◌++◌}
use borrow.Author.Tests.{lt-ltb, le-ltb, le-leb, lt-leb, ltb-true}
use lib.Dec.{leb, ltb}
use lib.ListN.{length, drop}
use Rattle.scheme.specs.Lists.{any, last_or}
use Rattle.scheme.proofs.Lists.{and_true}
use Rattle.casefile.specs.Fields.{word}
use Rattle.casefile.specs.Tables.{words}
use Rattle.casefile.specs.Refusals.{ascends, ascends_from}
use Rattle.casefile.proofs.Steps.{words_step, words_done, left_miss, left_hit, left_done}

-- Ascending members.
module _ (p : List ℕ) where
  abbrev pub Ascends : ℕ → ℕ → Type 0
  Ascends last i = ascends (words (drop 2 p)) ≡ ascends_from last (words (drop i p))

  pub ascends_start : 4 ≤ length p → (last : ℕ) → last ≡ word p 2 → Ascends last 4
  unfolding ascends
  ascends_start h last e = ap ascends (words_step p 2 (omega arith)) ∙ ap (λ l. ascends_from l (words (drop 4 p))) (sym e)

  pub ascends_few : length p < 4 → true ≡ ascends (words (drop 2 p))
  unfolding ascends
  ascends_few h = sym (ap ascends (words_done p 2 (omega arith)))

  pub ascends_step : (last i m : ℕ) → i + 2 ≤ length p → m ≡ word p i → last < m → Ascends last i → Ascends m (i + 2)
  unfolding ascends_from
  ascends_step last i m h e l a =
      a ∙ ap (ascends_from last) (words_step p i h ∙ ap (λ k. k ∷ words (drop (i + 2) p)) (sym e)) ∙ ap (λ b. b && ascends_from m (words (drop (i + 2) p))) (lt-ltb last m l)

  pub ascends_stop : (last i m : ℕ) → i + 2 ≤ length p → m ≡ word p i → m ≤ last → Ascends last i → false ≡ ascends (words (drop 2 p))
  unfolding ascends_from
  ascends_stop last i m h e l a =
      sym (a ∙ ap (ascends_from last) (words_step p i h ∙ ap (λ k. k ∷ words (drop (i + 2) p)) (sym e)) ∙ ap (λ b. b && ascends_from m (words (drop (i + 2) p))) (le-ltb last m l))

  pub ascends_end : (last i : ℕ) → Ascends last i → length p < i + 2 → true ≡ ascends (words (drop 2 p))
  unfolding ascends_from
  ascends_end last i a h = sym (a ∙ ap (ascends_from last) (words_done p i h))

pub words_few : (l : List ℕ) → length l < 2 → words l ≡ []
words_few l h = words_done l 0 h

pub words_more : (x l : List ℕ) → length x ≡ 2 → words (x ++ l) ≡ word x 0 ∷ words l
unfolding words
words_more [] l h = absurd (omega arith)
words_more (a ∷ []) l h = absurd (omega arith)
words_more (a ∷ b ∷ []) l h = refl
words_more (a ∷ b ∷ c ∷ x) l h = absurd (omega arith)

-- Numbers that are n or more.
module _ (n : ℕ) (p : List ℕ) where
  abbrev pub Later : ℕ → Type 0
  Later i = any (λ (t : ℕ). leb n t) (words p) ≡ any (λ (t : ℕ). leb n t) (words (drop i p))

  pub later_miss : (i t : ℕ) → i + 2 ≤ length p → t ≡ word p i → t < n → Later i → Later (i + 2)
  later_miss i t h e l = left_miss (λ (t : ℕ). leb n t) words p 2 (word p) (words_step p) (words_done p) i h (ap (leb n) (sym e) ∙ lt-leb n t l)

  pub later_hit : (i t : ℕ) → i + 2 ≤ length p → t ≡ word p i → n ≤ t → Later i → true ≡ any (λ (t : ℕ). leb n t) (words p)
  later_hit i t h e l = left_hit (λ (t : ℕ). leb n t) words p 2 (word p) (words_step p) (words_done p) i h (ap (leb n) (sym e) ∙ le-leb n t l)

  pub later_done : (i : ℕ) → Later i → length p < i + 2 → false ≡ any (λ (t : ℕ). leb n t) (words p)
  later_done = left_done (λ (t : ℕ). leb n t) words p 2 (word p) (words_step p) (words_done p)

-- Where the members ascend, the result and the last number decide.
later_from : (n a : ℕ) (l : List ℕ) → ascends_from a l ≡ true → any (λ (t : ℕ). leb n t) (a ∷ l) ≡ leb n (last_or a l)
unfolding any ascends_from last_or
later_from n a [] e = or-false (leb n a)
later_from n a (b ∷ l) e = let (less, up) = and_true (ltb a b) (ascends_from b l) e in below (ltb-true a b less) (dec_le n a) ∙ later_from n b l up
  where
    below : a < b → Dec (n ≤ a) → (leb n a || (leb n b || any (λ (t : ℕ). leb n t) l)) ≡ (leb n b || any (λ (t : ℕ). leb n t) l)
    below h (yes k) = simp (le-leb n a k, le-leb n b (omega arith))
    below h (no k) = simp (lt-leb n a (omega arith))

later_last : (n a : ℕ) (l : List ℕ) → a < n → ascends l ≡ true → any (λ (t : ℕ). leb n t) l ≡ leb n (last_or a l)
unfolding any ascends last_or
later_last n a [] h e = sym (lt-leb n a h)
later_last n a (b ∷ l) h e = later_from n b l e

-- the last number stands two bytes before the end
last_number : (p : List ℕ) (k i : ℕ) → length p ≡ i + 2 + k * 2 → last_or (word p i) (words (drop (i + 2) p)) ≡ word p (length p - 2)
unfolding last_or
last_number p zero i e = rw (words_done p (i + 2) (omega arith)) (ap (word p) (omega arith))
last_number p (suc k) i e = rw (words_step p (i + 2) (omega arith)) (last_number p k (i + 2) (omega arith))

module _ (n : ℕ) (p : List ℕ) (h : 2 ≤ length p) (a : ℕ) (ea : a ≡ word p 0) where
  pub ends_first : n ≤ a → leb n a ≡ any (λ (t : ℕ). leb n t) (words p)
  ends_first l = le-leb n a l ∙ later_hit n p 0 a h ea l refl

  pub ends_last : a < n → length p % 2 ≡ 0 → (b : ℕ) → b ≡ word p (length p - 2) → ascends (words (drop 2 p)) ≡ true → leb n b ≡ any (λ (t : ℕ). leb n t) (words p)
  ends_last l even b eb up =
      let last : last_or (word p 0) (words (drop 2 p)) ≡ word p (length p - 2) = last_number p ((length p - 2) / 2) 0 (omega arith) in
      ap (leb n) (eb ∙ sym last ∙ ap (λ m. last_or m (words (drop 2 p))) (sym ea)) ∙ sym (later_miss n p 0 a h ea l refl ∙ later_last n a (words (drop 2 p)) l up)

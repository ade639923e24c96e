-- A note: two words of the users, each with a bit put in.
use Prim.Native.Nat.{ℕ, ◌+◌, ◌*◌, ◌/◌, ◌%◌, ◌<◌, ◌≤◌}
use native.Mathlib.Omega.{arith}
use native.Mathlib.Decide.{dec_lt}
use native.Mathlib.Nat.{mul-le-mul}
use mathlib.Core.Path.{◌≡◌, refl, sym, ap, subst, ◌∙◌}
use mathlib.Core.List.{List}
use lib.ListN.{length, get_or, take, drop, get_or-eq_default}
use lib.Seq.{get_or-drop, get_or-take}
use mir.Syntax.{w32, w64}
use mir.Val.{Fits}
use Rattle.index.specs.layout.Layout.{max_bindings, word_bits, words_limit, test_users, test_answers}
use Rattle.marks.specs.Marks.{bit_of}
use Rattle.marks.proofs.Bits.{zero_bit}
use Rattle.term_check.specs.notes.Notes.{owner_in, words_in, total_in, column_of, brief_of, Noted, Notes}
use Rattle.term_check.specs.Worlds.{split_at, from_in, answers_of, users_of, PutsBelow}
use Rattle.term_check.proofs.parts.Parting.{from_same, answers_same, length_users, same_lengths}

-- a number of 32 bits has 64
pub wider : {n : ℕ} → Fits w32 n → Fits w64 n
wider f = record { fits = omega arith }

-- what some columns take, of a few words each
pub columns_fit : (n k : ℕ) → n * (k % words_limit) ≤ n * 63
columns_fit n k = mul-le-mul {n₁ = n} {m₁ = k % words_limit} {n₂ = n} {m₂ = 63} (omega arith) (omega arith)

-- there are no users in a test without its numbers
pub note_none : (r w : List ℕ) (c : ℕ) → length r ≤ test_answers → (length w ≡ length w) × (answers_of r w ≡ answers_of r w) × Notes (users_of r w) r c (users_of r w)
unfolding split_at
note_none r w c h = (refl, refl, record { long = refl; grows = λ i k l e. e; noted = λ few room there. absurd (omega (arith, length_users r w, get_or-eq_default r 0 h)) })

-- a word of the users, where it stands
module _ (r w : List ℕ) (i : ℕ) (h : i < length (users_of r w)) where
  users_at : get_or (users_of r w) i 0 ≡ get_or w (from_in r w + i) 0
  unfolding users_of
  users_at = get_or-drop (from_in r w) (take (split_at r w) w) i 0 ∙ get_or-take (split_at r w) w (from_in r w + i) 0 (omega (arith, length_users r w))

  users_from : get_or r test_users 0 ≡ from_in r w
  unfolding from_in
  users_from = omega (arith, length_users r w)

  users_below : from_in r w + i < split_at r w
  users_below = omega (arith, length_users r w)

-- two bits put in
module _ (r w mid after : List ℕ) (split c : ℕ) (es : split ≡ split_at r w) (p : PutsBelow w split (get_or r test_users 0 + column_of r c + owner_in r / word_bits) (owner_in r) mid) (q : PutsBelow mid split (get_or r test_users 0 + total_in r * words_in r + c % max_bindings) (owner_in r / word_bits) after) where
  long : length after ≡ length w
  long = q.long ∙ p.long

  same_users : length (users_of r after) ≡ length (users_of r w)
  same_users = (same_lengths r w after long).1

  -- a bit of a word among the users, by the place where that word stands
  there : (i k place : ℕ) → i < length (users_of r w) → from_in r w + i ≡ place → bit_of k (get_or after place 0) ≡ 1 → bit_of k (get_or (users_of r after) i 0) ≡ 1
  there i k place h e b =
      ap (bit_of k) (users_at r after i (omega (arith, same_users)) ∙ ap (λ f. get_or after (f + i) 0) (from_same r w after long) ∙ ap (λ n. get_or after n 0) e) ∙ b

  grows : (i k : ℕ) → k < word_bits → bit_of k (get_or (users_of r w) i 0) ≡ 1 → bit_of k (get_or (users_of r after) i 0) ≡ 1
  grows i k l e = go (dec_lt i (length (users_of r w)))
    where
      go : Dec (i < length (users_of r w)) → bit_of k (get_or (users_of r after) i 0) ≡ 1
      go (yes h) = there i k (from_in r w + i) h refl (q.grows (from_in r w + i) k l (p.grows (from_in r w + i) k l (sym (ap (bit_of k) (users_at r w i h)) ∙ e)))
      go (no h) = let z = zero_bit k in let o = ap (bit_of k) (get_or-eq_default (users_of r w) 0 {n = i} (omega arith)) in absurd (omega arith)

  noted : owner_in r < word_bits * word_bits → column_of r c + owner_in r / word_bits < length (users_of r w) → brief_of r c < length (users_of r w) → Noted (users_of r after) r c
  noted few room back =
      let from = users_from r w (brief_of r c) back in
      let column = users_below r w (column_of r c + owner_in r / word_bits) room in
      let brief = users_below r w (brief_of r c) back in
      let same : owner_in r / word_bits % word_bits ≡ owner_in r / word_bits = omega arith in (
        few,
        there (column_of r c + owner_in r / word_bits) (owner_in r % word_bits) (get_or r test_users 0 + column_of r c + owner_in r / word_bits) room (omega arith) (q.grows (get_or r test_users 0 + column_of r c + owner_in r / word_bits) (owner_in r % word_bits) (omega arith) (p.put (omega arith))),
        there (brief_of r c) (owner_in r / word_bits) (get_or r test_users 0 + total_in r * words_in r + c % max_bindings) back (omega arith) (subst (λ k. bit_of k (get_or after (get_or r test_users 0 + total_in r * words_in r + c % max_bindings) 0) ≡ 1) same (q.put (omega arith))),
      )

  pub note_both : (length after ≡ length w) × (answers_of r after ≡ answers_of r w) × Notes (users_of r w) r c (users_of r after)
  note_both = (long, answers_same r w after long (subst (λ s. drop s after ≡ drop s w) es (q.behind ∙ p.behind)), record { long = same_users; grows = grows; noted = noted })

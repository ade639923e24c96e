-- The numbers of a test, the sets of candidates, the users and the answers as parts of what a test reads and writes.
use Prim.Native.Nat.{ℕ, ◌+◌, ◌-◌, ◌<◌, ◌≤◌, min}
use native.Mathlib.Omega.{arith}
use mathlib.Core.Path.{◌≡◌, refl, sym, ap, subst, ◌∙◌}
use mathlib.Core.List.{List, ◌++◌}
use lib.ListN.{length, get_or, take, drop, length-drop, get_or-eq_default}
use lib.Seq.{get_or-take, get_or-drop, ext_get_or, take_all}
use Rattle.index.specs.layout.Layout.{test_users, test_answers, test_cells}
use Rattle.term_check.specs.Worlds.{split_at, from_in, answers_of, users_of}
use Rattle.term_check.proofs.parts.Parting.{split_same, users_same, length_users, after_long, after_middle, after_front, answers_lent}
use Rattle.rounds.specs.tested.Tested.{Placed, Same, Writes, Clears, Freshens}
use Rattle.rounds.proofs.tested.Clearing.{fresh_first}

-- places stay from step to step
pub placed_none : (r : List ℕ) → Placed r r
placed_none r = record { long = refl; users_at = refl; answers_at = refl }

pub placed_more : {r r' r'' : List ℕ} → Placed r r' → Placed r' r'' → Placed r r''
placed_more a b = record { long = b.long ∙ a.long; users_at = b.users_at ∙ a.users_at; answers_at = b.answers_at ∙ a.answers_at }

pub same_none : (r : List ℕ) → Same r r
same_none r = record { placed = placed_none r; sets = refl }

pub same_more : {r r' r'' : List ℕ} → Same r r' → Same r' r'' → Same r r''
same_more a b = record { placed = placed_more a.placed b.placed; sets = b.sets ∙ a.sets }

-- what is said of the parts by one list of numbers is said by another that has the same places
pub moved : (r r' : List ℕ) → Placed r r' → (P : (List ℕ → List ℕ) → (List ℕ → List ℕ) → Type 0) → P (answers_of r') (users_of r') → P (answers_of r) (users_of r)
unfolding answers_of users_of from_in split_at
moved r r' s P p =
    subst (λ n. P (λ w. drop (min n (length w)) w) (λ w. drop (min (get_or r test_users 0) (min n (length w))) (take (min n (length w)) w))) s.answers_at
    (subst (λ m. P (λ w. drop (min (get_or r' test_answers 0) (length w)) w) (λ w. drop (min m (min (get_or r' test_answers 0) (length w))) (take (min (get_or r' test_answers 0) (length w)) w))) s.users_at p)

pub moved_sets : (r r' : List ℕ) → Same r r' → (P : List ℕ → (List ℕ → List ℕ) → (List ℕ → List ℕ) → Type 0) → P (drop test_cells r') (answers_of r') (users_of r') → P (drop test_cells r) (answers_of r) (users_of r)
moved_sets r r' s P p = subst (λ l. P l (answers_of r) (users_of r)) s.sets (moved r r' s.placed (P (drop test_cells r')) p)

-- the first k numbers are written
pub record Written (test r r' : List ℕ) (k : ℕ) : Type 0 where
  pub long : length r' ≡ length r
  pub numbers : (i : ℕ) → i < k → get_or r' i 0 ≡ get_or test i 0
  pub stays : (i : ℕ) → k ≤ i → get_or r' i 0 ≡ get_or r i 0

-- the places and the sets stay
pub writes_same : (test r r' : List ℕ) → Writes test r r' → Same r r'
writes_same test r r' w =
    record {
      placed = record { long = w.long; users_at = w.stays test_users (omega arith); answers_at = w.stays test_answers (omega arith) };
      sets =
          let e = length-drop test_cells r' in
          let e' = length-drop test_cells r in
          let l = w.long in
          ext_get_or 0 (drop test_cells r') (drop test_cells r) (omega arith) (λ i h. get_or-drop test_cells r' i 0 ∙ w.stays (test_cells + i) (omega arith) ∙ sym (get_or-drop test_cells r i 0));
    }

-- the sets of candidates, lent and put back
module _ (r m : List ℕ) (h : test_cells ≤ length r) (e : length m ≡ length (take (length r - test_cells) (drop test_cells r))) where
  abbrev back : List ℕ
  back = take test_cells r ++ (m ++ drop (length r - test_cells) (drop test_cells r))

  pub sets_lent : take (length r - test_cells) (drop test_cells r) ≡ drop test_cells r
  sets_lent = take_all (length r - test_cells) (drop test_cells r) (omega (arith, length-drop test_cells r))

  pub sets_back : drop test_cells back ≡ m
  sets_back = ap (drop test_cells) (sym (take_all (length r) back (omega (arith, after_long r m test_cells (length r) h (omega arith) e)))) ∙ after_middle r m test_cells (length r) h (omega arith) e

  number_back : (k : ℕ) → k < test_cells → get_or back k 0 ≡ get_or r k 0
  number_back k l = sym (get_or-take test_cells back k 0 l) ∙ ap (λ x. get_or x k 0) (after_front r m test_cells (length r) h (omega arith) e) ∙ get_or-take test_cells r k 0 l

  pub sets_placed : Placed r back
  sets_placed = record { long = after_long r m test_cells (length r) h (omega arith) e; users_at = number_back test_users (omega arith); answers_at = number_back test_answers (omega arith) }

-- the answers cleared
module _ (r w : List ℕ) (split : ℕ) (es : split ≡ split_at r w) (hs : split ≤ length w) (m : List ℕ) (all : Clears (take (length w - split) (drop split w)) m) where
  e : length m ≡ length (take (length w - split) (drop split w))
  e = all.long

  abbrev put : List ℕ
  put = take split w ++ (m ++ drop (length w - split) (drop split w))

  long_put : length put ≡ length w
  long_put = after_long w m split (length w) hs (omega arith) e

  cleared : answers_of r put ≡ m
  unfolding answers_of
  cleared =
      ap (λ s. drop s put) (split_same r w put long_put ∙ sym es)
      ∙ ap (drop split) (sym (take_all (length w) put (omega (arith, long_put))))
      ∙ after_middle w m split (length w) hs (omega arith) e

  lent : take (length w - split) (drop split w) ≡ answers_of r w
  lent = answers_lent r w split es hs

  pub fresh_part : (last : ℕ) → (length put ≡ length w) × (users_of r put ≡ users_of r w) × Freshens (answers_of r w) last (answers_of r put) 1
  fresh_part last = (
    long_put,
    users_same r w put long_put (subst (λ s. take s put ≡ take s w) es (after_front w m split (length w) hs (omega arith) e)),
    fresh_first (answers_of r w) last (answers_of r put) (ap length cleared ∙ e ∙ ap length lent) (λ i. ap (λ l. get_or l i 0) cleared ∙ all.zeros i),
  )

pub fresh_next : (r w : List ℕ) (last : ℕ) → (length w ≡ length w) × (users_of r w ≡ users_of r w) × Freshens (answers_of r w) last (answers_of r w) (last + 1)
fresh_next r w last = (refl, refl, record { long = refl; some_number = omega arith; fresh = λ u. u })

-- where there is no room for the numbers of a test there are no users
at_most : (r w : List ℕ) → split_at r w ≤ get_or r test_answers 0
unfolding split_at
at_most r w = omega arith

pub no_users : (r w : List ℕ) → length r ≤ test_answers → length (users_of r w) ≡ 0
no_users r w h = let z = get_or-eq_default r 0 h in omega (arith, length_users r w, at_most r w)

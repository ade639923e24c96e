-- A binding that leaves the sets of candidates, and words joined from the users, where these are parts of what is read and written.
use Prim.Native.Nat.{ℕ, ◌+◌, ◌*◌, ◌-◌, ◌/◌, ◌%◌, ◌<◌, ◌≤◌}
use native.Mathlib.Omega.{arith}
use native.Mathlib.Decide.{ℕ_discrete}
use mathlib.Core.Path.{◌≡◌, refl, sym, ap, subst, ◌∙◌}
use mathlib.Core.Bool.{true, false≢true}
use mathlib.Core.List.{List, ◌++◌}
use lib.ListN.{length, get_or, take, drop, set, length-drop, get_or-eq_default}
use lib.Seq.{get_or-set_same, get_or-set_other}
use Rattle.scheme.specs.Flags.{is_kept}
use Rattle.index.specs.layout.Layout.{word_bits, test_cells}
use Rattle.marks.specs.Marks.{bit_of, In}
use Rattle.marks.proofs.Bits.{zero_bit}
use Rattle.tables.specs.Filling.{LeavesSets}
use Rattle.term_check.specs.Worlds.{split_at, from_in, users_of}
use Rattle.term_check.proofs.parts.Parting.{from_below, before_middle}
use Rattle.rounds.specs.tested.Tested.{Placed, Same}
use Rattle.rounds.specs.declared.tested.Sizes.{Sizes}
use Rattle.rounds.specs.dropping.Dropping.{Joins, Drops, DropsAll}
use Rattle.rounds.proofs.tested.Placing.{placed_none, placed_more, moved, sets_lent, sets_back, sets_placed}

-- no number is in a set of no words
in_none : (words : List ℕ) (at m : ℕ) → length words ≡ 0 → In words at m → ⊥
in_none words at m e i = let z = zero_bit (m % word_bits) in let w = ap (bit_of (m % word_bits)) (get_or-eq_default words 0 (let k : length words ≤ at + m / word_bits = omega arith in k)) in omega arith

kept_not : is_kept 0 ≡ true → ⊥
unfolding is_kept
kept_not e = false≢true e

kept_before : (kept : List ℕ) (b c : ℕ) → b < length kept → is_kept (get_or (set kept b 0) c 0) ≡ true → is_kept (get_or kept c 0) ≡ true
kept_before kept b c h k = go (ℕ_discrete c b)
  where
    go : Dec (c ≡ b) → is_kept (get_or kept c 0) ≡ true
    go (yes e) = absurd (kept_not (ap is_kept (sym (ap (λ x. get_or (set kept b 0) x 0) e ∙ get_or-set_same kept b 0 0 h)) ∙ k))
    go (no d) = ap is_kept (sym (get_or-set_other kept b c 0 0 d)) ∙ k

leaves_none : (t sets : List ℕ) (b words : ℕ) → length sets ≡ 0 → LeavesSets t b words sets sets
leaves_none t sets b words e =
    record {
      long = refl;
      left = λ rs kept types bindings h l w are.
          record {
            all_in = λ c i k. are.all_in c i (kept_before kept b c l k);
            kept_only = λ c g i k m. absurd (in_none sets (g * words) c e m);
            chained = λ c g i k m. absurd (in_none sets (g * words) c e m);
          };
    }

-- there are no sets
pub leave_none : (t r : List ℕ) (b words : ℕ) → length r < test_cells → Placed r r × LeavesSets t b words (drop test_cells r) (drop test_cells r)
leave_none t r b words h = (placed_none r, leaves_none t (drop test_cells r) b words (omega (arith, length-drop test_cells r)))

-- the sets are lent and put back
pub leave_part : (t r : List ℕ) (b words : ℕ) → test_cells ≤ length r → (m : List ℕ) → LeavesSets t b words (take (length r - test_cells) (drop test_cells r)) m
    → Placed r (take test_cells r ++ (m ++ drop (length r - test_cells) (drop test_cells r))) × LeavesSets t b words (drop test_cells r) (drop test_cells (take test_cells r ++ (m ++ drop (length r - test_cells) (drop test_cells r))))
leave_part t r b words h m l = (sets_placed r m h l.long, subst (LeavesSets t b words (drop test_cells r)) (sym (sets_back r m h l.long)) (subst (λ s. LeavesSets t b words s m) (sets_lent r m h l.long) l))

-- the users, lent
pub join_part : (r w : List ℕ) (from split at brief : ℕ) (into after : List ℕ) → split ≡ split_at r w → split ≤ length w → from ≡ from_in r w → Joins (take (split - from) (drop from w)) at brief into after → Joins (users_of r w) at brief into after
unfolding users_of
join_part r w from split at brief into after es hs ef j =
    subst (λ u. Joins u at brief into after)
    (before_middle w (take (split - from) (drop from w)) from split (from_below r w from split es hs ef) hs refl ∙ ap (λ f. drop f (take split w)) ef ∙ ap (λ s. drop (from_in r w) (take s w)) es) j

-- one that is dropped, by the users as the places stood before
pub drops_from : (r₀ r w t firsts : List ℕ) (sizes : Sizes) (b : ℕ) (sets flags todo sets' flags' todo' : List ℕ) → Placed r₀ r → Drops t firsts (users_of r w) sizes b sets flags todo sets' flags' todo' → Drops t firsts (users_of r₀ w) sizes b sets flags todo sets' flags' todo'
drops_from r₀ r w t firsts sizes b sets flags todo sets' flags' todo' p d = moved r₀ r p (λ answers users. Drops t firsts (users w) sizes b sets flags todo sets' flags' todo') d

-- all that are dropped, by the users and the sets as they stood before
pub drops_all_from : (r₀ r r₁ w t firsts : List ℕ) (sizes : Sizes) (failed flags todo : List ℕ) (least past : ℕ) (sets' flags' todo' : List ℕ) → Placed r₀ r → Same r r₁ → DropsAll t firsts (users_of r₁ w) sizes failed (drop test_cells r₁) flags todo least past sets' flags' todo'
    → DropsAll t firsts (users_of r₀ w) sizes failed (drop test_cells r) flags todo least past sets' flags' todo'
drops_all_from r₀ r r₁ w t firsts sizes failed flags todo least past sets' flags' todo' p s d =
    moved r₀ r₁ (placed_more p s.placed) (λ answers users. DropsAll t firsts (users w) sizes failed (drop test_cells r) flags todo least past sets' flags' todo') (subst (λ l. DropsAll t firsts (users_of r₁ w) sizes failed l flags todo least past sets' flags' todo') s.sets d)

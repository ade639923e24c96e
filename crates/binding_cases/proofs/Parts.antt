-- What is read and what is written when the bindings are judged: where users and answers begin, and the room for them.
use Prim.Native.Nat.{ℕ, ◌+◌, ◌-◌, ◌≤◌}
use native.Mathlib.Omega.{arith}
use mathlib.Core.Path.{◌≡◌, sym, subst, ◌∙◌}
use mathlib.Core.List.{List, ◌++◌}
use lib.ListN.{length, get_or, take, drop}
use lib.Seq.{get_or-drop}
use Rattle.index.specs.layout.Layout.{test_users, test_answers, test_cells}
use Rattle.tables.specs.Filling.{FillsSets}
use Rattle.term_check.specs.Worlds.{split_at, from_in, answers_of, users_of}
use Rattle.term_check.proofs.parts.Parting.{length_users}
use Rattle.rounds.proofs.tested.Placing.{sets_lent, sets_back, sets_placed}
use Rattle.binding_cases.specs.Judging.{Fills}

pub fills_part : (t : List ℕ) (bindings words : ℕ) (r : List ℕ) → test_cells ≤ length r → (m : List ℕ) → FillsSets t bindings words (take (length r - test_cells) (drop test_cells r)) m
    → Fills t bindings words r (take test_cells r ++ (m ++ drop (length r - test_cells) (drop test_cells r)))
fills_part t bindings words r h m f =
    record {
      placed = sets_placed r m h f.long;
      filled = λ k. subst (FillsSets t bindings words (drop test_cells r)) (sym (sets_back r m h f.long)) (subst (λ s. FillsSets t bindings words s m) (sets_lent r m h f.long) f);
    }

-- there is room for the users, and no answer yet
module _ (r w : List ℕ) (from size : ℕ) (eu : get_or r test_users 0 ≡ from) (ea : get_or r test_answers 0 ≡ from + size) (room : from + size ≤ length w) where
  split_is : split_at r w ≡ from + size
  unfolding split_at
  split_is = omega arith

  from_is : from_in r w ≡ from
  unfolding from_in
  from_is = let s = split_is in omega arith

  pub users_room : size ≤ length (users_of r w)
  users_room = omega (arith, length_users r w, split_is, from_is)

pub no_answer : (r w : List ℕ) → ((i : ℕ) → get_or w i 0 ≡ 0) → (i : ℕ) → get_or (answers_of r w) i 0 ≡ 0
unfolding answers_of
no_answer r w z i = get_or-drop (split_at r w) w i 0 ∙ z (split_at r w + i)

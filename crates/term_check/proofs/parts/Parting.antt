-- The users and the answers as parts of what a check writes.
use Prim.Native.Nat.{ℕ, ◌+◌, ◌-◌, ◌<◌, ◌≤◌, min}
use native.Mathlib.Omega.{arith}
use mathlib.Core.Path.{◌≡◌, sym, ap, subst, ◌∙◌}
use mathlib.Core.List.{List, ◌++◌, append_assoc}
use lib.ListN.{length, get_or, take, drop, set, length-append, length-drop, length-set}
use lib.Seq.{length-take-le, take_all, take_at, drop_at, take-add, drop-drop, drop-set-lt, take-set-lt}
use Rattle.index.specs.layout.Layout.{test_users, test_answers}
use Rattle.answers.specs.Answers.{Looks, Learns}
use Rattle.answers.specs.declared.Outlook.{Outlook}
use Rattle.term_check.specs.notes.Notes.{stamp_in, wide_in}
use Rattle.term_check.specs.Worlds.{split_at, from_in, answers_of, users_of}

-- where the parts begin
module _ (r w : List ℕ) where
  pub from_split : from_in r w ≤ split_at r w
  unfolding from_in
  from_split = omega arith

  -- they stay where they are while the length does
  module _ (after : List ℕ) (e : length after ≡ length w) where
    pub split_same : split_at r after ≡ split_at r w
    unfolding split_at
    split_same = ap (min (get_or r test_answers 0)) e

    pub from_same : from_in r after ≡ from_in r w
    unfolding from_in
    from_same = ap (min (get_or r test_users 0)) split_same

    pub answers_same : drop (split_at r w) after ≡ drop (split_at r w) w → answers_of r after ≡ answers_of r w
    unfolding answers_of
    answers_same d = ap (λ s. drop s after) split_same ∙ d

    pub users_same : take (split_at r w) after ≡ take (split_at r w) w → users_of r after ≡ users_of r w
    unfolding users_of
    users_same t = ap (λ s. drop (from_in r after) (take s after)) split_same ∙ ap (λ l. drop (from_in r after) l) t ∙ ap (λ f. drop f (take (split_at r w) w)) from_same

-- parts of lists that are as long are as long
pub split_within : (r w : List ℕ) → split_at r w ≤ length w
unfolding split_at
split_within r w = omega arith

pub length_users : (r w : List ℕ) → length (users_of r w) ≡ split_at r w - from_in r w
unfolding users_of
length_users r w = length-drop (from_in r w) (take (split_at r w) w) ∙ ap (λ n. n - from_in r w) (length-take-le (split_at r w) w (split_within r w))

pub length_answers : (r w : List ℕ) → length (answers_of r w) ≡ length w - split_at r w
unfolding answers_of
length_answers r w = length-drop (split_at r w) w

pub same_lengths : (r w after : List ℕ) → length after ≡ length w → (length (answers_of r after) ≡ length (answers_of r w)) × (length (users_of r after) ≡ length (users_of r w))
same_lengths r w after e =
    (omega (arith, length_answers r after, length_answers r w, split_same r w after e), omega (arith, length_users r after, length_users r w, split_same r w after e, from_same r w after e))

-- a part that is lent and put back
module _ (w m : List ℕ) (a b : ℕ) (h : a ≤ b) (k : b ≤ length w) (e : length m ≡ length (take (b - a) (drop a w))) where
  abbrev pub after : List ℕ
  after = take a w ++ (m ++ drop (b - a) (drop a w))

  up : a + (b - a) ≡ b
  up = omega arith

  front : length (take a w) ≡ a
  front = length-take-le a w (omega arith)

  size : length m ≡ b - a
  size = e ∙ length-take-le (b - a) (drop a w) (omega (arith, length-drop a w))

  head_size : length (take a w ++ m) ≡ b
  head_size = length-append (take a w) m ∙ omega (arith, front, size)

  joined : after ≡ (take a w ++ m) ++ drop (b - a) (drop a w)
  joined = sym (append_assoc (take a w) m (drop (b - a) (drop a w)))

  rest : drop (b - a) (drop a w) ≡ drop b w
  rest = drop-drop (b - a) a w ∙ ap (λ n. drop n w) up

  pub after_long : length after ≡ length w
  after_long = ap length joined ∙ length-append (take a w ++ m) (drop (b - a) (drop a w)) ∙ omega (arith, head_size, ap length rest, length-drop b w)

  pub after_middle : drop a (take b after) ≡ m
  after_middle = ap (λ l. drop a (take b l)) joined ∙ ap (drop a) (take_at (take a w ++ m) (drop (b - a) (drop a w)) b head_size) ∙ drop_at (take a w) m a front

  pub after_front : take a after ≡ take a w
  after_front = take_at (take a w) (m ++ drop (b - a) (drop a w)) a front

  pub before_middle : take (b - a) (drop a w) ≡ drop a (take b w)
  before_middle = sym (ap (λ n. drop a (take n w)) (sym up) ∙ ap (drop a) (take-add a (b - a) w) ∙ drop_at (take a w) (take (b - a) (drop a w)) a front)

-- the answers as they are lent
pub answers_lent : (r w : List ℕ) (split : ℕ) → split ≡ split_at r w → split ≤ length w → take (length w - split) (drop split w) ≡ answers_of r w
unfolding answers_of
answers_lent r w split es hs = take_all (length w - split) (drop split w) (omega (arith, length-drop split w)) ∙ ap (λ s. drop s w) es

-- the answers, lent
module _ (r w : List ℕ) (split wide stamp : ℕ) (es : split ≡ split_at r w) (hs : split ≤ length w) (ew : wide ≡ wide_in r) (et : stamp ≡ stamp_in r) where
  lent : take (length w - split) (drop split w) ≡ answers_of r w
  lent = answers_lent r w split es hs

  moved : (P : List ℕ → ℕ → ℕ → Type 0) → P (take (length w - split) (drop split w)) wide stamp → P (answers_of r w) (wide_in r) (stamp_in r)
  moved P p = subst (λ m. P m (wide_in r) (stamp_in r)) lent (subst (λ v. P (take (length w - split) (drop split w)) v (stamp_in r)) ew (subst (P (take (length w - split) (drop split w)) wide) et p))

  pub outlook_part : (at goal : ℕ) (s : Outlook) → Looks (take (length w - split) (drop split w)) wide stamp at goal s → Looks (answers_of r w) (wide_in r) (stamp_in r) at goal s
  outlook_part at goal s = moved (λ m v k. Looks m v k at goal s)

  module _ (m : List ℕ) (at goal known had : ℕ) (l : Learns (take (length w - split) (drop split w)) wide stamp at goal known had m) where
    abbrev put : List ℕ
    put = take split w ++ (m ++ drop (length w - split) (drop split w))

    pub learn_long : length put ≡ length w
    learn_long = after_long w m split (length w) hs (omega arith) l.long

    learnt : answers_of r put ≡ m
    unfolding answers_of
    learnt =
        ap (λ s. drop s put) (split_same r w put learn_long ∙ sym es)
        ∙ ap (drop split) (sym (take_all (length w) put (omega (arith, learn_long))))
        ∙ after_middle w m split (length w) hs (omega arith) l.long

    pub learn_part : (length put ≡ length w) × (users_of r put ≡ users_of r w) × Learns (answers_of r w) (wide_in r) (stamp_in r) at goal known had (answers_of r put)
    learn_part =
        (learn_long, users_same r w put learn_long (subst (λ s. take s put ≡ take s w) es (after_front w m split (length w) hs (omega arith) l.long)), subst (Learns (answers_of r w) (wide_in r) (stamp_in r) at goal known had) (sym learnt) (moved (λ n v k. Learns n v k at goal known had m) l))

-- the users, lent
module _ (r w : List ℕ) (from split : ℕ) (es : split ≡ split_at r w) (hs : split ≤ length w) (ef : from ≡ from_in r w) where
  pub from_below : from ≤ split
  from_below = omega (arith, from_split r w)

-- a cell in front of the users, written
module _ (r w : List ℕ) (i v : ℕ) (h : i < from_in r w) where
  users_front : users_of r (set w i v) ≡ users_of r w
  unfolding users_of
  users_front =
      ap (λ s. drop (from_in r (set w i v)) (take s (set w i v))) (split_same r w (set w i v) (length-set w i v))
      ∙ ap (λ f. drop f (take (split_at r w) (set w i v))) (from_same r w (set w i v) (length-set w i v))
      ∙ ap (drop (from_in r w)) (take-set-lt (split_at r w) w i v (omega (arith, from_split r w)))
      ∙ drop-set-lt (from_in r w) (take (split_at r w) w) i v h

  pub set_front : (length (set w i v) ≡ length w) × (answers_of r (set w i v) ≡ answers_of r w) × (users_of r (set w i v) ≡ users_of r w)
  set_front = (length-set w i v, answers_same r w (set w i v) (length-set w i v) (drop-set-lt (split_at r w) w i v (omega (arith, from_split r w))), users_front)

-- two cells in front of the users, written one after the other
pub set_twice : (r w : List ℕ) (from i j v : ℕ) → from ≡ from_in r w → i < from → j < from
    → (length (set (set w i v) j v) ≡ length w) × (answers_of r (set (set w i v) j v) ≡ answers_of r w) × (users_of r (set (set w i v) j v) ≡ users_of r w)
set_twice r w from i j v e hi hj =
    let a = set_front r w i v (omega arith) in
    let b = set_front r (set w i v) j v (omega (arith, from_same r w (set w i v) (length-set w i v))) in
    (b.0 ∙ a.0, b.1 ∙ a.1, b.2 ∙ a.2)

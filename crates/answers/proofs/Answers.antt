-- What a test remembers. An answer is read from the cell of its node and goal. To learn one writes that cell whole: the
-- answers of the same test that it had, and the new one; so what the memo says then it said before, or it is the new answer.
use Prim.Native.Nat.{ℕ, ◌+◌, ◌-◌, ◌*◌, ◌/◌, ◌%◌, ◌<◌, ◌≤◌}
use native.Mathlib.Omega.{arith}
use native.Mathlib.Decide.{ℕ_discrete}
use mathlib.Core.Path.{◌≡◌, sym, ap, ◌∙◌}
use mathlib.Core.Logic.{◌⊎◌, inl, inr}
use mathlib.Core.Bool.{Bool, true, false}
use mathlib.Core.List.{List}
use lib.Bits.{bit_and, bit_or}
use lib.ListN.{length, get_or}
use Rattle.scheme.specs.Flags.{bit}
use Rattle.marks.specs.Marks.{bit_of}
use Rattle.marks.proofs.Bits.{bit_small, bit_two, zero_bit, and_bit, or_bit, minus_bit}
use Rattle.std.specs.Prelude.{Option, Some}
use Rattle.answers.specs.Answers.{cell_at, Covered, IsCell, Says, Looks, Under, Learns}
use Rattle.answers.specs.declared.Outlook.{Outlook}
use Rattle.answers.proofs.Cells.{same_place, written, written_long, written_other, written_first, written_second, written_third}

-- a test whose number is above those of all answers has none
pub fresh : (memo : List ℕ) (wide stamp at goal : ℕ) (b : Bool) → Under memo stamp → Says memo wide stamp at goal b → ⊥
fresh memo wide stamp at goal b u s = let low = u (at * wide + goal / 32) in let is = s.stamped in omega arith

-- an answer, read from its cell
pub says : (memo : List ℕ) (wide stamp at goal cell : ℕ) (b : Bool) → Covered wide at goal → cell ≡ cell_at wide at goal → get_or memo cell 0 ≡ stamp → bit_of (goal % 32) (get_or memo (cell + 1) 0) ≡ 1 → bit_of (goal % 32) (get_or memo (cell + 2) 0) ≡ bit b → Says memo wide stamp at goal b
says memo wide stamp at goal cell b c e s k a =
    record {
      covered = c;
      stamped = ap (λ x. get_or memo x 0) (sym e) ∙ s;
      known = ap (λ x. bit_of (goal % 32) (get_or memo (x + 1) 0)) (sym e) ∙ k;
      answer = ap (λ x. bit_of (goal % 32) (get_or memo (x + 2) 0)) (sym e) ∙ a;
    }

-- goals of one word stand in one cell
word_cell : (wide at goal h : ℕ) → h / 32 ≡ goal / 32 → Covered wide at goal → Covered wide at h × (cell_at wide at goal ≡ cell_at wide at h)
word_cell wide at goal h e c = (record { narrow = c.narrow; node_in = c.node_in; goal_in = omega (arith, c.goal_in) }, ap (λ x. (at * wide + x) * 3) (sym e))

module _ (memo : List ℕ) (wide stamp at goal cell : ℕ) (there : Option ℕ) (i : IsCell (length memo) wide at goal there) (e : there ≡ Some cell) (first : get_or memo cell 0 ≡ stamp) (r : Outlook) where
  answered : (h : ℕ) (b : Bool) → h / 32 ≡ goal / 32 → bit_of (h % 32) (get_or memo (cell + 1) 0) ≡ 1 → bit_of (h % 32) (get_or memo (cell + 2) 0) ≡ bit b → Says memo wide stamp at h b
  answered h b l k a =
      let here-cell = i.cell cell e in
      let c = word_cell wide at goal h l here-cell.0 in
      says memo wide stamp at h cell b c.0 (here-cell.1 ∙ c.1) first k a

  pub looks : r.had ≡ bit_and (get_or memo (cell + 1) 0) (get_or memo (cell + 2) 0) → r.lacked ≡ get_or memo (cell + 1) 0 - bit_and (get_or memo (cell + 1) 0) (get_or memo (cell + 2) 0) → Looks memo wide stamp at goal r
  unfolding bit
  looks had lacked =
      record {
        yes = λ h l e.
            let x = ap (bit_of (h % 32)) had in
            let y = and_bit (h % 32) (get_or memo (cell + 1) 0) (get_or memo (cell + 2) 0) in
            let k = bit_small (h % 32) (get_or memo (cell + 1) 0) in
            let a = bit_small (h % 32) (get_or memo (cell + 2) 0) in
            answered h true l (omega arith) (omega arith);
        no = λ h l e.
            let x = ap (bit_of (h % 32)) lacked in
            let y = minus_bit (h % 32) (get_or memo (cell + 1) 0) (get_or memo (cell + 2) 0) in
            let k = bit_small (h % 32) (get_or memo (cell + 1) 0) in
            answered h false l (omega arith) (omega arith);
      }

-- the words of a cell that a test goes on with: those of the same test, or none
pub record Kept (memo : List ℕ) (cell stamp old said : ℕ) : Type 0 where
  pub stamped : get_or memo cell 0 ≡ stamp
  pub same_known : old ≡ get_or memo (cell + 1) 0
  pub same_had : said ≡ get_or memo (cell + 2) 0

-- what is had of what was known and of what is known now: a new answer stands in place of an old one
abbrev pub joined : ℕ → ℕ → ℕ → ℕ
joined said known had = bit_or (said - bit_and said known) (bit_and had known)

module _ (k said known had : ℕ) where
  joined_old : bit_of k known ≡ 0 → bit_of k (joined said known had) ≡ bit_of k said
  joined_old z =
      let o = or_bit k (said - bit_and said known) (bit_and had known) in
      let m = minus_bit k said known in
      let a = and_bit k had known in
      omega arith

  joined_new : bit_of k known ≡ 1 → bit_of k (joined said known had) ≡ bit_of k had
  joined_new e =
      let o = or_bit k (said - bit_and said known) (bit_and had known) in
      let m = minus_bit k said known in
      let a = and_bit k had known in
      let s = bit_small k said in
      let h = bit_small k had in
      omega arith

module _ (memo : List ℕ) (wide stamp at goal cell known had old said : ℕ) (v : Covered wide at goal) (e : cell ≡ cell_at wide at goal) (room : cell + 3 ≤ length memo) (kept : Kept memo cell stamp old said ⊎ (old ≡ 0)) where
  abbrev second : ℕ
  second = bit_or old known

  abbrev third : ℕ
  third = joined said known had

  abbrev after : List ℕ
  after = written memo cell stamp second third

  -- what is told is one of the answers that are entered
  abbrev Entered : ℕ → ℕ → ℕ → Bool → Type 0
  Entered s j h c = (s ≡ stamp) × (j ≡ at) × (h / 32 ≡ goal / 32) × (bit_of (h % 32) known ≡ 1) × (bit_of (h % 32) had ≡ bit c)

  -- an answer of another cell was there before
  stays : (j h x : ℕ) → (cell_at wide j h ≡ cell → ⊥) → x ≤ 2 → get_or after (cell_at wide j h + x) 0 ≡ get_or memo (cell_at wide j h + x) 0
  stays j h x d l = written_other memo cell stamp second third (cell_at wide j h + x) (λ f. omega arith) (λ f. omega arith) (λ f. omega arith)

  told_other : (s j h : ℕ) (c : Bool) → (cell_at wide j h ≡ cell → ⊥) → Says after wide s j h c → Says memo wide s j h c
  told_other s j h c d y =
      record {
        covered = y.covered;
        stamped = sym (written_other memo cell stamp second third (cell_at wide j h) d (λ f. omega arith) (λ f. omega arith)) ∙ y.stamped;
        known = ap (bit_of (h % 32)) (sym (stays j h 1 d (omega arith))) ∙ y.known;
        answer = ap (bit_of (h % 32)) (sym (stays j h 2 d (omega arith))) ∙ y.answer;
      }

  -- an answer of this cell is a new one, or it was there before
  module _ (s j h : ℕ) (c : Bool) (f : cell_at wide j h ≡ cell) (y : Says after wide s j h c) where
    is_stamp : s ≡ stamp
    is_stamp = sym y.stamped ∙ ap (λ x. get_or after x 0) f ∙ written_first memo cell stamp second third room

    is_known : bit_of (h % 32) second ≡ 1
    is_known = ap (bit_of (h % 32)) (sym (ap (λ x. get_or after (x + 1) 0) f ∙ written_second memo cell stamp second third room)) ∙ y.known

    is_answer : bit_of (h % 32) third ≡ bit c
    is_answer = ap (bit_of (h % 32)) (sym (ap (λ x. get_or after (x + 2) 0) f ∙ written_third memo cell stamp second third room)) ∙ y.answer

    is_place : (j ≡ at) × (h / 32 ≡ goal / 32)
    is_place = let w = y.covered.goal_in in let w' = v.goal_in in same_place wide j (h / 32) at (goal / 32) w w' (omega arith)

    told_old : bit_of (h % 32) known ≡ 0 → Says memo wide s j h c
    told_old z = go kept
      where
        before : bit_of (h % 32) old ≡ 1
        before = let o = or_bit (h % 32) old known in let k = is_known in omega arith

        go : Kept memo cell stamp old said ⊎ (old ≡ 0) → Says memo wide s j h c
        go (inr n) = let o = ap (bit_of (h % 32)) n in let k = zero_bit (h % 32) in let w = before in absurd (omega arith)
        go (inl o) = says memo wide s j h cell c y.covered (sym f) (o.stamped ∙ sym is_stamp) (ap (bit_of (h % 32)) (sym o.same_known) ∙ before) (ap (bit_of (h % 32)) (sym o.same_had) ∙ sym (joined_old (h % 32) said known had z) ∙ is_answer)

    told_here : Says memo wide s j h c ⊎ Entered s j h c
    told_here = go (bit_two (h % 32) known)
      where
        go : (bit_of (h % 32) known ≡ 0) ⊎ (bit_of (h % 32) known ≡ 1) → Says memo wide s j h c ⊎ Entered s j h c
        go (inl z) = inl (told_old z)
        go (inr k) = inr (is_stamp, is_place.0, is_place.1, k, sym (joined_new (h % 32) said known had k) ∙ is_answer)

  under_after : (bound : ℕ) → stamp < bound → Under memo bound → Under after bound
  under_after bound l u i = go (ℕ_discrete (i * 3) cell)
    where
      go : Dec (i * 3 ≡ cell) → get_or after (i * 3) 0 < bound
      go (yes f) = let x = ap (λ x. get_or after x 0) f ∙ written_first memo cell stamp second third room in omega arith
      go (no d) = let x = written_other memo cell stamp second third (i * 3) d (λ f. omega arith) (λ f. omega arith) in let o = u i in omega arith

  told_all : (s j h : ℕ) (c : Bool) → Says after wide s j h c → Dec (cell_at wide j h ≡ cell) → Says memo wide s j h c ⊎ Entered s j h c
  told_all s j h c y (yes f) = told_here s j h c f y
  told_all s j h c y (no d) = inl (told_other s j h c d y)

  entered : Learns memo wide stamp at goal known had after
  entered = record { long = written_long memo cell stamp second third; told = λ s j h c y. told_all s j h c y (ℕ_discrete (cell_at wide j h) cell); under = under_after }

pub learns : (memo : List ℕ) (wide stamp at goal cell known had old said : ℕ) (there : Option ℕ) → IsCell (length memo) wide at goal there → there ≡ Some cell → Kept memo cell stamp old said ⊎ (old ≡ 0)
    → Learns memo wide stamp at goal known had (written memo cell stamp (bit_or old known) (joined said known had))
learns memo wide stamp at goal cell known had old said there i e kept = let c = i.cell cell e in entered memo wide stamp at goal cell known had old said c.0 c.1 c.2 kept

-- The answer for one goal is remembered: its bit is entered, and no other of the cell.
use Prim.Native.Nat.{ℕ, ◌/◌, ◌%◌}
use native.Mathlib.Omega.{arith}
use mathlib.Core.Path.{◌≡◌, sym, subst}
use mathlib.Core.Logic.{◌⊎◌, inl, inr}
use mathlib.Core.Bool.{Bool, true, false, true≢false}
use mathlib.Core.List.{List}
use Rattle.index.specs.layout.Layout.{word_bits}
use Rattle.marks.specs.Marks.{bit_of}
use Rattle.marks.proofs.Bits.{zero_bit}
use Rattle.answers.specs.Answers.{Learns}
use Rattle.tables.specs.Frames.{Adds}
use Rattle.term_check.specs.notes.Notes.{stamp_in, wide_in}
use Rattle.term_check.specs.Worlds.{Case, Yes, No, ChecksTerm}
use Rattle.term_check.proofs.check.Keeping.{keeps_learn}

module _ (x : Case) (memo users : List ℕ) (at goal bit : ℕ) (puts : Adds 0 (goal % word_bits) bit) (memo' users' : List ℕ) (b : Bool) (told : ChecksTerm x memo users at goal memo' users' b) (memo'' : List ℕ) where
  only : (h : ℕ) → h / word_bits ≡ goal / word_bits → bit_of (h % word_bits) bit ≡ 1 → goal ≡ h
  only h e o = go (puts.only (omega arith) (h % word_bits) o)
    where
      go : (bit_of (h % word_bits) 0 ≡ 1) ⊎ (h % word_bits ≡ goal % word_bits) → goal ≡ h
      go (inl z) = let n = zero_bit (h % word_bits) in absurd (omega arith)
      go (inr f) = omega arith

  pub learned_no : b ≡ false → Learns memo' (wide_in x.test) (stamp_in x.test) at goal bit 0 memo'' → ChecksTerm x memo users at goal memo'' users' false
  learned_no e learns =
      record {
        keeps =
            keeps_learn told.keeps at goal bit 0 memo'' learns
            (record {
              yes = λ w r h f o i. let n = zero_bit (h % word_bits) in absurd (omega arith);
              no = λ w r h f o i. subst (No x w at) (only h f o) (told.no e w r);
            });
        yes = λ y. absurd (true≢false (sym y));
        no = λ y. told.no e;
      }

  pub learned_yes : b ≡ true → Learns memo' (wide_in x.test) (stamp_in x.test) at goal bit bit memo'' → ChecksTerm x memo users at goal memo'' users' true
  learned_yes e learns =
      record {
        keeps =
            keeps_learn told.keeps at goal bit bit memo'' learns
            (record {
              yes = λ w r h f o i. subst (Yes x w users' at) (only h f o) (told.yes e w r);
              no = λ w r h f o i. absurd (omega arith);
            });
        yes = λ y. told.yes e;
        no = λ y. absurd (true≢false y);
      }

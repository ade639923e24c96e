-- The arguments of a head, where what a type asks for is known.
use Prim.Native.Nat.{ℕ, ◌-◌, ◌<◌}
use native.Mathlib.Omega.{arith}
use mathlib.Core.Path.{◌≡◌, refl, sym, ◌∙◌}
use mathlib.Core.Bool.{Bool, true, false, true≢false}
use mathlib.Core.List.{List}
use borrow.Author.Tests.{eqb-true}
use lib.Dec.{eqb}
use Rattle.answers.specs.Answers.{Looks}
use Rattle.answers.specs.declared.Outlook.{Outlook}
use Rattle.tables.specs.reading.Cells.{states_of_spec, arrows_of_spec, node_at, result_of}
use Rattle.term_check.specs.notes.Notes.{base_in, stamp_in, wide_in}
use Rattle.term_check.specs.masks.Masks.{Leaves}
use Rattle.term_check.specs.Worlds.{Case, ChecksArgs}
use Rattle.term_check.specs.heads.Heads.{ArgsKnown}
use Rattle.term_check.proofs.heads.Looking.{seen_memo}
use Rattle.term_check.proofs.check.Keeping.{keeps_all}
use Rattle.term_check.proofs.check.Members.{states_had}
use Rattle.term_check.proofs.check.Arguments.{args_none, args_rest}

module _ (x : Case) (memo : List ℕ) (at n g : ℕ) where
  -- one argument, whose members are states that are remembered
  pub known_states : n ≡ 1 → arrows_of_spec x.t g ≡ 0 → (states : ℕ) → states ≡ states_of_spec x.t g → states < 65536 → (known : Outlook) → Looks memo (wide_in x.test) (stamp_in x.test) at 0 known → (left : ℕ) → Leaves states known.had left
      → ArgsKnown x memo at n g (eqb left 0)
  known_states one none states is small known looks left leaves = record { have = λ y w users r. (args users (eqb-true left 0 y)).yes refl w r }
    where
      behind : ℕ
      behind = (node_at x.t (base_in x.test) at).next

      result : ℕ
      result = result_of x.t g

      args : (users : List ℕ) → left ≡ 0 → ChecksArgs x memo users at n g memo users true
      args users z =
          args_rest x memo users at n g (omega arith) behind refl memo users true (states_had x memo users at g states is small known (seen_memo x memo at known _ _ refl refl looks) left leaves z none) refl result refl (n - 1) refl memo users true
          (args_none x memo users behind (n - 1) result (omega arith))

  -- what is known is an answer
  pub known_args : (users : List ℕ) (b : Bool) → ArgsKnown x memo at n g b → b ≡ true → ChecksArgs x memo users at n g memo users true
  known_args users b known e = record { keeps = keeps_all x memo users; yes = λ y w r. known.have e w users r; no = λ y. absurd (true≢false y) }

-- The states of a file.
use Prim.Native.Nat.{ℕ, ◌+◌, ◌<◌, ◌≤◌}
use native.Mathlib.Omega.{arith}
use native.Mathlib.Nat.{add-zero}
use mathlib.Core.Path.{◌≡◌, refl, sym, ap, ◌∙◌}
use mathlib.Core.List.{List, [], ◌∷◌, map}
use borrow.Author.Tests.{eqb-true, not-false}
use lib.Dec.{eqb}
use lib.ListN.{length, get_or}
use Rattle.scheme.specs.Lists.{last_or}
use Rattle.casefile.specs.Fields.{byte}
use Rattle.casefile.specs.Records.{Record}
use Rattle.casefile.specs.Kinds.{states, payloads}
use Rattle.casefile.specs.Tables.{state_count_spec}
use Rattle.casefile.specs.Refusals.{wrong_length}
use Rattle.casefile.proofs.TypeTable.{count_payloads}
use Rattle.index.specs.layout.Layout.{states_at}
use Rattle.index.specs.entries.Index.{Indexed}
use Rattle.index.specs.entries.Tests.{Fitting}

-- The number of states, by the states record if there is one.
module _ (file index : List ℕ) (n : ℕ) (rs : List Record) (ix : Indexed file index states n rs) where
  none_of : (ps : List (List ℕ)) → length ps ≡ 0 → last_or 0 (map (λ (p : List ℕ). byte p 0) ps) ≡ 0
  unfolding last_or
  none_of [] e = refl
  none_of (p ∷ ps) e = absurd (omega arith)

  one_of : (ps : List (List ℕ)) → length ps ≡ 1 → last_or 0 (map (λ (p : List ℕ). byte p 0) ps) ≡ byte (get_or ps 0 []) 0
  unfolding last_or
  one_of [] e = absurd (omega arith)
  one_of (p ∷ []) e = refl
  one_of (p ∷ q ∷ ps) e = absurd (omega arith)

  pub no_states : n ≡ 0 → 0 ≡ state_count_spec rs
  unfolding state_count_spec
  no_states e = sym (none_of (payloads states rs) (sym (count_payloads states rs) ∙ ix.counted ∙ e))

  pub some_states : (n ≡ 0 → ⊥) → n ≤ 1 → Fitting states n rs → (at r : ℕ) → at ≡ get_or index states_at 0 → r ≡ byte file at → r ≡ state_count_spec rs
  unfolding state_count_spec wrong_length
  some_states ne few fit at r e f =
      let one : n ≡ 1 = omega arith in
      let h : 0 < n = omega arith in
      let long : length (get_or (payloads states rs) 0 []) ≡ 1 = eqb-true (length (get_or (payloads states rs) 0 [])) 1 (not-false (eqb (length (get_or (payloads states rs) 0 [])) 1) (fit 0 h)) in
      let there : byte file (get_or index states_at 0 + 0) ≡ byte (get_or (payloads states rs) 0 []) 0 = ix.field_there 0 h 1 0 (omega arith) in
      f ∙ ap (byte file) (e ∙ sym (add-zero (get_or index states_at 0))) ∙ there ∙ sym (one_of (payloads states rs) (sym (count_payloads states rs) ∙ ix.counted ∙ one))

-- The row of the transition table for a state and a constructor, and the constructor's argument count.
use Prim.Native.Nat.{ℕ, ◌+◌, ◌<◌, ◌≤◌, min}
use native.Mathlib.Omega.{arith}
use native.Mathlib.Decide.{dec_lt}
use mathlib.Core.Path.{◌≡◌, refl, sym, ap, ◌∙◌}
use mathlib.Core.List.{List, []}
use mathlib.Core.Option.{none}
use borrow.Author.Tests.{eq-eqb, ne_eqb, eqb-true, not-false}
use lib.Dec.{eqb}
use lib.ListN.{length, get_or, length-map, get_or-eq_default}
use Rattle.casefile.specs.Fields.{byte}
use Rattle.casefile.specs.Records.{Record}
use Rattle.casefile.specs.Kinds.{Kind, payloads}
use Rattle.casefile.specs.Tables.{arities_of, transitions_of, targets_at}
use Rattle.casefile.specs.Refusals.{wrong_length}
use Rattle.casefile.specs.Promises.{Passed}
use Rattle.casefile.proofs.Passed.{entry}
use Rattle.casefile.proofs.TypeTable.{count_payloads}
use Rattle.scheme.proofs.Lists.{get_d_map_in}
use Rattle.index.specs.layout.Layout.{max_constructors, max_states, constructors_at}
use Rattle.index.specs.entries.Index.{Indexed}
use Rattle.transitions.specs.table.Moves.{row_at, targets_in}
use Rattle.transitions.proofs.table.Meaning.{no_state, no_constructor}
use Rattle.transitions.specs.rows.Rows.{targets_of, IsRow, IsArity}
use Rattle.std.specs.Prelude.{None, Some}

-- a row of the table, where it says that there is a transition
found_in : (arity : ℕ) (row : List ℕ) → (get_or row 0 0 ≡ 255 → ⊥) → targets_of arity (Some row) ≡ targets_in arity row
unfolding targets_in targets_of
found_in arity row h = rw (ne_eqb (get_or row 0 0) 255 h)

none_in : (arity : ℕ) (row : List ℕ) → get_or row 0 0 ≡ 255 → targets_of arity None ≡ targets_in arity row
unfolding targets_in targets_of
none_in arity row h = rw (eq-eqb (get_or row 0 0) 255 h)

none_of : (arity : ℕ) → targets_of arity None ≡ none
unfolding targets_of
none_of arity = refl

module _ {table : List (List (List ℕ))} {constructors q c : ℕ} where
  -- there is none past the last state, and none past the last constructor
  pub row_past : (q < max_states → min constructors max_constructors ≤ c) → IsRow table constructors q c None
  row_past h = record { targets = λ rs ok t e few. none_of (get_or (arities_of rs) c 0) ∙ sym (by ok e few (dec_lt q max_states)); four = λ rs t. tt }
    where
      by : {rs : List Record} → Passed rs → length (arities_of rs) ≡ constructors → constructors ≤ max_constructors → Dec (q < max_states) → targets_at (transitions_of rs) q c ≡ none
      by ok e few (yes l) = no_constructor ok q c (let k = h l in omega arith)
      by ok e few (no l) = no_state ok q c (omega arith)

  module _ (h : q < max_states) (k : c < max_constructors) where
    pub row_none : get_or (row_at table q c) 0 0 ≡ 255 → IsRow table constructors q c None
    row_none e = record { targets = λ rs ok t y few. none_in (get_or (arities_of rs) c 0) (row_at table q c) e ∙ t.targets q c h k; four = λ rs t. tt }

    pub row_there : (get_or (row_at table q c) 0 0 ≡ 255 → ⊥) → IsRow table constructors q c (Some (row_at table q c))
    row_there e = record { targets = λ rs ok t y few. found_in (get_or (arities_of rs) c 0) (row_at table q c) e ∙ t.targets q c h k; four = λ rs t. t.four q c h k }

pub constructor_count : {file index : List ℕ} {constructors : ℕ} (rs : List Record) → Indexed file index Kind.constructor constructors rs → length (arities_of rs) ≡ constructors
unfolding arities_of
constructor_count rs x = length-map (payloads Kind.constructor rs) (λ (p : List ℕ). byte p 0) ∙ sym (count_payloads Kind.constructor rs) ∙ x.counted

module _ {file index : List ℕ} {constructors c : ℕ} where
  pub arity_past : min constructors max_constructors ≤ c → IsArity file index constructors c 0
  arity_past h rs ok x few = sym (get_or-eq_default (arities_of rs) 0 (let l = constructor_count rs x in omega arith))

  pub arity_there : c < constructors → (place r : ℕ) → place ≡ get_or index (constructors_at + c) 0 → r ≡ byte file place → IsArity file index constructors c r
  unfolding arities_of wrong_length
  arity_there h place r ep er rs ok x few =
      let l : length (payloads Kind.constructor rs) ≡ constructors = sym (count_payloads Kind.constructor rs) ∙ x.counted in
      let inside : c < length (payloads Kind.constructor rs) = omega arith in
      let e = entry ok Kind.constructor c inside in
      let one : length (get_or (payloads Kind.constructor rs) c []) ≡ 1 = ap length e.here ∙ eqb-true (length e.payload) 1 (not-false (eqb (length e.payload) 1) e.passed_tests.fits) in
      let zero : place ≡ get_or index (constructors_at + c) 0 + 0 = omega arith in
      er ∙ ap (byte file) zero ∙ x.field_there c h 1 0 (omega arith) ∙ sym (get_d_map_in (λ (p : List ℕ). byte p 0) (payloads Kind.constructor rs) c 0 [] inside)

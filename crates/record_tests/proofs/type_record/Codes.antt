-- The code of a type record, by what the tests of the program found.
use Prim.Native.Nat.{ℕ, zero, suc, ◌%◌, ◌<◌, ◌≤◌}
use native.Mathlib.Omega.{arith}
use mathlib.Core.Path.{◌≡◌, refl, sym, ap, ◌∙◌}
use mathlib.Core.Bool.{Bool, true, false}
use mathlib.Core.List.{List}
use borrow.Author.Tests.{lt-ltb, le-ltb, le-leb, lt-leb, eq-eqb, ne_eqb}
use lib.Dec.{leb}
use lib.ListN.{length, drop}
use Rattle.std.specs.Prelude.{Result, Ok, Err}
use Rattle.std.specs.Result.{IsErrAnd}
use Rattle.scheme.specs.Lists.{choose◌then◌else◌, any}
use Rattle.records.specs.declared.refusal.Fault.{Fault}
use Rattle.records.specs.declared.refusal.Fault.TheVariants.{TooLong, CutOff, WrongKind, WrongLength, OverLimit, OutOfRange, Misplaced, Incomplete, WrongBody, MixedEvidence, Misfit, FewFlags, Lost, TooLarge, NotStuck}
use Rattle.records.specs.refusal.Numbers.{number_of, code_of}
use Rattle.casefile.specs.Fields.{byte}
use Rattle.casefile.specs.Records.{Record}
use Rattle.casefile.specs.Kinds.{type, count}
use Rattle.casefile.specs.Tables.{state_count_spec, words}
use Rattle.casefile.specs.Refusals.{wrong_length, too_many, too_large, out_of_range, misplaced, ascends, repeats}
use Rattle.index.specs.layout.Layout.{max_types, max_type}
use Rattle.index.specs.entries.Codes.{code_for}
use Rattle.index.specs.entries.Tests.{TestsType}
use Rattle.index.specs.chains.Listing.{Listed}
use Rattle.record_tests.specs.type_record.Alone.{or_repeat, CodesAlone}

-- The payload alone.
module _ (n states : ℕ) (p : List ℕ) where
  -- what a test says of all records before
  abbrev Codes : ℕ → Type 0
  Codes r = (rs : List Record) → count type rs ≡ n → state_count_spec rs ≡ states → code_for rs p type ≡ r

  refuses : (r : ℕ) → Codes (suc r) → CodesAlone n states p (suc r)
  unfolding or_repeat
  refuses r h = record { decides = h; few = λ z. absurd (omega arith) }

  passes : n < max_types → length p ≤ max_type → ((rs : List Record) → count type rs ≡ n → state_count_spec rs ≡ states → code_for rs p type ≡ (choose repeats rs p type then 7 else 0)) → CodesAlone n states p 0
  unfolding or_repeat
  passes m l h = record { decides = h; few = λ z. (m, l) }

  -- a state
  module _ (h : length p ≡ 1) where
    right_length : wrong_length type (length p) ≡ false
    unfolding wrong_length
    right_length = simp (eq-eqb (length p) 1 h)

    pub state_many : max_types ≤ n → CodesAlone n states p 5
    unfolding code_for too_many
    state_many m = refuses 4 (λ rs c st. simp (right_length, c, le-leb max_types n m))

    pub state_range : n < max_types → (q : ℕ) → q ≡ byte p 0 → states ≤ q → CodesAlone n states p 6
    unfolding code_for too_many too_large out_of_range
    state_range m q e l = refuses 5 (λ rs c st. simp (right_length, c, lt-leb max_types n m, eq-eqb (length p) 1 h, st, ← e, le-leb states q l))

    pub state_alone : n < max_types → (q : ℕ) → q ≡ byte p 0 → q < states → CodesAlone n states p 0
    unfolding code_for too_many too_large out_of_range misplaced
    state_alone m q e l = passes m (omega arith) (λ rs c st. simp (right_length, c, lt-leb max_types n m, eq-eqb (length p) 1 h, st, ← e, lt-leb states q l, le-ltb 1 (length p) (omega arith)))

  -- an arrow
  module _ (ne : length p ≡ 1 → ⊥) where
    pub arrow_short : length p < 2 → CodesAlone n states p 4
    unfolding code_for wrong_length
    arrow_short h = refuses 3 (λ rs c st. simp (ne_eqb (length p) 1 ne, lt-leb 2 (length p) h))

    pub arrow_long : 2 ≤ length p → max_type < length p → CodesAlone n states p 4
    unfolding code_for wrong_length
    arrow_long h l = refuses 3 (λ rs c st. simp (ne_eqb (length p) 1 ne, le-leb 2 (length p) h, lt-leb (length p) max_type l))

    pub arrow_odd : 2 ≤ length p → length p ≤ max_type → (length p % 2 ≡ 0 → ⊥) → CodesAlone n states p 4
    unfolding code_for wrong_length
    arrow_odd h l e = refuses 3 (λ rs c st. simp (ne_eqb (length p) 1 ne, le-leb 2 (length p) h, le-leb (length p) max_type l, ne_eqb (length p % 2) 0 e))

    module _ (h : 2 ≤ length p) (l : length p ≤ max_type) (e : length p % 2 ≡ 0) where
      even_length : wrong_length type (length p) ≡ false
      unfolding wrong_length
      even_length = simp (ne_eqb (length p) 1 ne, le-leb 2 (length p) h, le-leb (length p) max_type l, eq-eqb (length p % 2) 0 e)

      pub arrow_many : max_types ≤ n → CodesAlone n states p 5
      unfolding code_for too_many
      arrow_many m = refuses 4 (λ rs c st. simp (even_length, c, le-leb max_types n m))

      module _ (m : n < max_types) (later : Bool) (el : later ≡ any (λ (t : ℕ). leb n t) (words p)) where
        pub arrow_later : later ≡ true → CodesAlone n states p 6
        unfolding code_for too_many too_large out_of_range
        arrow_later e = refuses 5 (λ rs c st. simp (even_length, c, lt-leb max_types n m, ne_eqb (length p) 1 ne, ← el, e))

        module _ (el' : later ≡ false) (up : Bool) (eu : up ≡ ascends (words (drop 2 p))) where
          pub arrow_down : up ≡ false → CodesAlone n states p 7
          unfolding code_for too_many too_large out_of_range misplaced
          arrow_down e = refuses 6 (λ rs c st. simp (even_length, c, lt-leb max_types n m, ne_eqb (length p) 1 ne, ← el, el', lt-ltb 1 (length p) h, ← eu, e))

          pub arrow_alone : up ≡ true → CodesAlone n states p 0
          unfolding code_for too_many too_large out_of_range misplaced
          arrow_alone e = passes m l (λ rs c st. simp (even_length, c, lt-leb max_types n m, ne_eqb (length p) 1 ne, ← el, el', lt-ltb 1 (length p) h, ← eu, e))

-- a refusal that is passed on keeps its number
pub passed_on : (r : Result Unit Fault) (f : Fault) → IsErrAnd r (λ (g : Fault). g ≡ f) → code_of r ≡ number_of f
passed_on (Ok x) f is = absurd is
passed_on (Err g) f is = ap number_of is

-- a refusal has a number other than 0
numbered : (f : Fault) → number_of f ≡ 0 → ⊥
numbered TooLong e = absurd (omega arith)
numbered CutOff e = absurd (omega arith)
numbered WrongKind e = absurd (omega arith)
numbered WrongLength e = absurd (omega arith)
numbered OverLimit e = absurd (omega arith)
numbered OutOfRange e = absurd (omega arith)
numbered Misplaced e = absurd (omega arith)
numbered Incomplete e = absurd (omega arith)
numbered WrongBody e = absurd (omega arith)
numbered MixedEvidence e = absurd (omega arith)
numbered Misfit e = absurd (omega arith)
numbered FewFlags e = absurd (omega arith)
numbered Lost e = absurd (omega arith)
numbered TooLarge e = absurd (omega arith)
numbered NotStuck e = absurd (omega arith)

-- The payload and the types before it.
module _ (file index : List ℕ) (n states : ℕ) (p : List ℕ) where
  pub tested_refused : (f : Fault) → CodesAlone n states p (number_of f) → TestsType file index n states p (number_of f)
  unfolding or_repeat
  tested_refused f alone rs ix st ch = sym (alone.decides rs ix.counted st ∙ stands (number_of f) (numbered f))
    where
      stands : (r : ℕ) → (r ≡ 0 → ⊥) → or_repeat r (repeats rs p type) ≡ r
      stands zero ne = absurd (ne refl)
      stands (suc r) ne = refl

  pub tested_listed : CodesAlone n states p 0 → (again b : Bool) → again ≡ b → Listed file index p again → TestsType file index n states p (choose b then 7 else 0)
  unfolding or_repeat
  tested_listed alone again b eb is rs ix st ch =
      let (few, short) = alone.few refl in
      sym (alone.decides rs ix.counted st ∙ ap (or_repeat 0) (sym (is n rs ix ch (omega arith) (omega arith)) ∙ eb))

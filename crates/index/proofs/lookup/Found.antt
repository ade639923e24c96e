-- An entry that the index holds is the payload of its record.
use Prim.Native.Nat.{ℕ, ◌+◌, ◌-◌, ◌<◌, ◌≤◌}
use native.Mathlib.Omega.{arith}
use native.Mathlib.Decide.{dec_le, dec_lt}
use mathlib.Core.Logic.{◌⊎◌, inl, inr, ⊎_elim}
use Rattle.std.specs.Str.{bytes_eq}
use Rattle.std.proofs.lemmas.List.{length-drop, length-take-le}
use Rattle.std.proofs.lemmas.Slice.Eq.{bytes_eq-Decides}
use mathlib.Core.Path.{◌≡◌, refl, sym, ap, ◌∙◌}
use mathlib.Core.Bool.{Bool, true, false}
use mathlib.Core.List.{List, []}
use borrow.Author.Tests.{lt-ltb, le-ltb}
use lib.Dec.{leb}
use lib.ListN.{get_or, length, take, drop}
use Rattle.scheme.specs.Lists.{choose◌then◌else◌}
use Rattle.casefile.specs.Fields.{word}
use Rattle.casefile.specs.Records.{Record}
use Rattle.records.specs.fields.Promises.{HasLength}
use Rattle.records.specs.cursor.Reading.{part_of}
use Rattle.records.proofs.cursor.Reading.{part_of_law, part_out}
use Rattle.casefile.specs.Kinds.{Kind, payloads}
use Rattle.index.specs.entries.Index.{base, Indexed}
use Rattle.index.specs.lookup.Lookup.{entry_of}

module _ (file index : List ℕ) (i : ℕ) where
  pub entry_none : (start : ℕ) → start ≡ get_or index i 0 → start < 4 → entry_of file index i ≡ []
  unfolding entry_of
  entry_none start e h = rw (lt-ltb (get_or index i 0) 4 (omega arith))

  pub entry_some : (start : ℕ) → start ≡ get_or index i 0 → 4 ≤ start → entry_of file index i ≡ part_of file start (word file (start - 4))
  unfolding entry_of
  entry_some start e h = rw (le-ltb (get_or index i 0) 4 (omega arith), e)

-- no bytes, wherever they begin
pub part_none : (file : List ℕ) (start : ℕ) → part_of file start 0 ≡ []
unfolding part_of
part_none file start = go (leb (start + 0) (length file))
  where
    go : (b : Bool) → (choose b then take 0 (drop start file) else []) ≡ []
    go true = refl
    go false = refl

-- by its start and the length before it
pub entry_is : (file index : List ℕ) (i start r : ℕ) → start ≡ get_or index i 0 → HasLength file start r → part_of file start r ≡ entry_of file index i
entry_is file index i start r e has = go (dec_lt start 4)
  where
    go : Dec (start < 4) → part_of file start r ≡ entry_of file index i
    go (yes h) = ap (part_of file start) (has.bare h) ∙ part_none file start ∙ sym (entry_none file index i start e h)
    go (no h) = ap (part_of file start) (has.headed (omega arith)) ∙ sym (entry_some file index i start e (omega arith))

-- a part of a file has as many bytes as are asked for, or none
pub part_length : (file : List ℕ) (start len : ℕ) → (length (part_of file start len) ≡ len) ⊎ (length (part_of file start len) ≡ 0)
part_length file start len = go (dec_le (start + len) (length file))
  where
    go : Dec (start + len ≤ length file) → (length (part_of file start len) ≡ len) ⊎ (length (part_of file start len) ≡ 0)
    go (yes h) = inl (ap length (part_of_law file start len h) ∙ length-take-le len (drop start file) (omega (arith, length-drop start file)))
    go (no h) = inr (ap length (part_out file start len (omega arith)))

-- what has another length than an entry, and is not empty, is not that entry
pub other_length : (p file index : List ℕ) (i start r : ℕ) → start ≡ get_or index i 0 → HasLength file start r → (r ≡ length p → ⊥) → (length p ≡ 0 → ⊥) → false ≡ bytes_eq p (entry_of file index i)
other_length p file index i start r e has other some = go (bytes_eq p (entry_of file index i)) refl
  where
    long : bytes_eq p (entry_of file index i) ≡ true → length p ≡ length (part_of file start r)
    long t = ap length ((bytes_eq-Decides p (entry_of file index i)).0 t ∙ sym (entry_is file index i start r e has))

    go : (b : Bool) → bytes_eq p (entry_of file index i) ≡ b → false ≡ bytes_eq p (entry_of file index i)
    go true t = absurd (⊎_elim (λ a. other (sym (long t ∙ a))) (λ a. some (long t ∙ a)) (part_length file start r))
    go false t = sym t

-- the payload of entry i of a kind
pub entry_there : {file index : List ℕ} {k : Kind} {n : ℕ} {rs : List Record} → Indexed file index k n rs → (i : ℕ) → i < n → entry_of file index (base k + i) ≡ get_or (payloads k rs) i []
entry_there {file} {index} {k} {n} {rs} x i h =
    let start = get_or index (base k + i) 0 in
    let b : 4 ≤ start = x.behind_header i h in
    let z : (start - 4) + 4 ≡ start = omega arith in
    entry_some file index (base k + i) start refl b ∙ ap (part_of file start) (x.length_there i (start - 4) h z) ∙ x.payload_there i h

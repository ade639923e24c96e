-- What the tables of a file give to the tests over the whole file.
use Prim.Native.Nat.{ℕ, ◌+◌, ◌<◌}
use native.Mathlib.Omega.{arith}
use native.Mathlib.Decide.{dec_lt}
use mathlib.Core.Path.{◌≡◌, refl, sym, subst}
use mathlib.Core.Bool.{◌||◌, not}
use mathlib.Core.List.{List, []}
use lib.Dec.{eqb}
use lib.ListN.{length, get_or, get_or-eq_default}
use Rattle.casefile.specs.Fields.{field}
use Rattle.casefile.specs.Records.{Record}
use Rattle.casefile.specs.Promises.{Bytes}
use Rattle.casefile.specs.Kinds.{Kind, nonterminal, rule, states, number, payloads, count}
use Rattle.casefile.proofs.TypeTable.{count_payloads}
use Rattle.index.specs.entries.Index.{base, Indexed}
use Rattle.index.specs.entries.Known.{Known}

nil_bytes : Bytes []
nil_bytes i = omega arith

-- the payloads of a file of bytes are bytes
module _ {file index : List ℕ} {k : Kind} {n : ℕ} {rs : List Record} (ix : Indexed file index k n rs) (bytes : Bytes file) where
  one_byte : (i j : ℕ) → i < n → get_or (get_or (payloads k rs) i []) j 0 < 256
  unfolding field
  one_byte i j h = go (dec_lt j (length (get_or (payloads k rs) i [])))
    where
      go : Dec (j < length (get_or (payloads k rs) i [])) → get_or (get_or (payloads k rs) i []) j 0 < 256
      go (yes l) = let e = ix.field_there i h 1 j (omega arith) in let b = bytes (get_or index (base k + i) 0 + j) in omega arith
      go (no l) = let e = get_or-eq_default (get_or (payloads k rs) i []) 0 {n = j} (omega arith) in omega arith

  pub payload_bytes : (i : ℕ) → Bytes (get_or (payloads k rs) i [])
  payload_bytes i = go (dec_lt i n)
    where
      go : Dec (i < n) → Bytes (get_or (payloads k rs) i [])
      go (yes l) = λ j. one_byte i j l
      go (no l) = subst Bytes (sym (get_or-eq_default (payloads k rs) [] {n = i} (let a = count_payloads k rs in let b = ix.counted in omega arith))) nil_bytes

-- 8, by the counts
module _ {file index lens counts : List ℕ} {rs : List Record} (known : Known file index lens counts rs) (s n r : ℕ) (es : s ≡ get_or counts 5 0) (en : n ≡ get_or counts 3 0) (er : r ≡ get_or counts 4 0) where
  pub counted_as : (eqb (count states rs) 0 || eqb (count nonterminal rs) 0 || not (eqb (count rule rs) (count nonterminal rs))) ≡ (eqb s 0 || eqb n 0 || not (eqb r n))
  unfolding number
  counted_as = rw ((known.entries states).counted, (known.entries nonterminal).counted, (known.entries rule).counted, es, en, er) refl

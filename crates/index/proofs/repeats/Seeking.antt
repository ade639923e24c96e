-- Looking for a payload among the earlier ones of a kind, through the index.
use Prim.Native.Nat.{ℕ, zero, suc, ◌+◌, ◌<◌, ◌≤◌}
use native.Mathlib.Omega.{arith}
use mathlib.Core.Path.{◌≡◌, refl, sym, ap, ap₂, ◌∙◌}
use mathlib.Core.Bool.{Bool, ◌&&◌, ◌||◌}
use mathlib.Core.List.{List, [], ◌∷◌}
use lib.Dec.{eqb}
use lib.ListN.{length, get_or, drop, drop_of_length-le}
use lib.Seq.{drop-cons}
use Rattle.std.specs.List.{list_any, range_with_len}
use Rattle.std.specs.Str.{bytes_eq}
use Rattle.scheme.specs.Lists.{any}
use Rattle.casefile.specs.Records.{Record}
use Rattle.casefile.specs.Kinds.{Kind, payloads}
use Rattle.casefile.specs.Refusals.{same_bytes_spec, repeats}
use Rattle.casefile.proofs.TypeTable.{count_payloads}
use Rattle.index.specs.entries.Index.{base, Indexed}
use Rattle.index.specs.lookup.Lookup.{entry_of}
use Rattle.index.specs.repeats.Matching.{Repeats}
use Rattle.index.proofs.lookup.Found.{entry_there}

-- the library's comparison of payloads
pub bytes_same : (p q : List ℕ) → bytes_eq p q ≡ same_bytes_spec p q
unfolding same_bytes_spec
bytes_same [] [] = refl
bytes_same [] (b ∷ q) = refl
bytes_same (a ∷ p) [] = refl
bytes_same (a ∷ p) (b ∷ q) = ap (λ r. eqb a b && r) (bytes_same p q)

module _ (file index : List ℕ) (p : List ℕ) where
  -- whether p is entry i of the index
  abbrev pub Same : ℕ → Bool
  Same i = bytes_eq p (entry_of file index i)

  module _ {k : Kind} {n : ℕ} {rs : List Record} (ix : Indexed file index k n rs) where
    pub entry_same : (i : ℕ) → i < n → Same (base k + i) ≡ same_bytes_spec p (get_or (payloads k rs) i [])
    entry_same i h = bytes_same p (entry_of file index (base k + i)) ∙ ap (same_bytes_spec p) (entry_there ix i h)

    so_many : length (payloads k rs) ≡ n
    so_many = sym (count_payloads k rs) ∙ ix.counted

    -- the m entries from number i on are the last payloads
    among : (m i : ℕ) → i + m ≡ n → list_any Same (range_with_len (base k + i) m) ≡ any (same_bytes_spec p) (drop i (payloads k rs))
    unfolding any
    among zero i e = sym (ap (any (same_bytes_spec p)) (drop_of_length-le (payloads k rs) {i = i} (omega (arith, so_many))))
    among (suc m) i e =
        let next : base k + i + 1 ≡ base k + suc i = omega arith in
        ap₂ (λ (a b : Bool). a || b) (entry_same i (omega arith)) (ap (λ j. list_any Same (range_with_len j m)) next ∙ among m (suc i) (omega arith))
        ∙ sym (ap (any (same_bytes_spec p)) (drop-cons (payloads k rs) i [] (omega (arith, so_many))))

  pub seek : (b n : ℕ) (r : Bool) → r ≡ list_any Same (range_with_len b n) → Repeats file index b n p r
  unfolding repeats
  seek b n r e k rs ib ix few l =
      let start : b ≡ base k + 0 = omega (arith, ib) in
      e ∙ ap (λ j. list_any Same (range_with_len j n)) start ∙ among ix n 0 (omega arith)

-- a block of the index begins below 4,096
pub base_few : (b : ℕ) (k : Kind) → b ≡ base k → b ≤ 4096
base_few b k e = rw e (few k)
  where
    few : (k : Kind) → base k ≤ 4096
    few Kind.sort = omega arith
    few Kind.constructor = omega arith
    few Kind.nonterminal = omega arith
    few Kind.rule = omega arith
    few Kind.states = omega arith
    few Kind.transition = omega arith
    few Kind.type = omega arith
    few Kind.binding = omega arith
    few Kind.path = omega arith

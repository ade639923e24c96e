-- Words joined to a set, those whose bits are in a word.
use Prim.Native.Nat.{ℕ, ◌+◌, ◌<◌}
use native.Mathlib.Omega.{arith}
use mathlib.Core.Path.{◌≡◌, ap, ◌∙◌}
use mathlib.Core.Logic.{◌⊎◌}
use mathlib.Core.List.{List}
use lib.Bits.{bit_or}
use lib.ListN.{length, get_or, set, length-set}
use lib.Seq.{get_or-set_same}
use Rattle.index.specs.layout.Layout.{word_bits}
use Rattle.marks.specs.Marks.{bit_of}
use Rattle.marks.proofs.Bits.{bit_small, or_bit}
use Rattle.marks.proofs.Sets.{stored}
use Rattle.rounds.specs.tested.Tested.{Grows}
use Rattle.rounds.specs.dropping.Dropping.{JoinsWord}

or_first : (k a b : ℕ) → bit_of k a ≡ 1 → bit_of k (bit_or a b) ≡ 1
or_first k a b e = let o = or_bit k a b in let s = bit_small k b in omega arith

or_second : (k a b : ℕ) → bit_of k b ≡ 1 → bit_of k (bit_or a b) ≡ 1
or_second k a b e = let o = or_bit k a b in let s = bit_small k a in omega arith

-- one word, where there is one, and where there is none
module _ (k word : ℕ) (into : List ℕ) where
  pub word_joined : k < length into → JoinsWord k word into (set into k (bit_or (get_or into k 0) word))
  word_joined h =
      record {
        long = length-set into k v;
        grows = λ i b l. stored (λ j x. (c : ℕ) → bit_of c (get_or into j 0) ≡ 1 → bit_of c x ≡ 1) into k v h (λ c s. or_first c (get_or into k 0) word s) (λ j c s. s) i b;
        joined = λ l j e. ap (bit_of j) (get_or-set_same into k v 0 h) ∙ or_second j (get_or into k 0) word e;
      }
    where
      v : ℕ
      v = bit_or (get_or into k 0) word

-- while words are joined: those that are not left are
module _ (words : List ℕ) (at some : ℕ) (into : List ℕ) where
  pub record Joining (after : List ℕ) (left : ℕ) : Type 0 where
    pub long : length after ≡ length into
    pub grows : Grows into after
    pub joined : (k : ℕ) → bit_of k some ≡ 1 → k < word_bits → k < length into → (bit_of k left ≡ 1) ⊎ ((j : ℕ) → j < word_bits → bit_of j (get_or words (at + k) 0) ≡ 1 → bit_of j (get_or after k 0) ≡ 1)

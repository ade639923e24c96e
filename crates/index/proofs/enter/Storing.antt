-- Tables after a store, and the entries of kinds by their numbers.
use Prim.Native.Nat.{ℕ, ◌+◌, ◌<◌}
use mathlib.Core.Path.{◌≡◌, refl, sym, ap, ◌∙◌}
use mathlib.Core.Bool.{Bool, true, false}
use mathlib.Core.List.{List}
use borrow.Author.Tests.{lt-ltb, eq-eqb, ne_eqb}
use lib.Dec.{ltb, eqb}
use lib.ListN.{length, get_or, set, length-set}
use lib.Seq.{get_or-set_same, get_or-set_other}
use Rattle.scheme.specs.Lists.{choose◌then◌else◌}
use Rattle.casefile.specs.Fields.{word}
use Rattle.casefile.specs.Kinds.{Kind, number, kind_of}
use Rattle.index.specs.layout.Layout.{hashes_at, links_at}
use Rattle.index.specs.entries.Chains.{hash_of_spec}
use Rattle.index.specs.enter.Entering.{stored, lens_after, chains_after}
use mathlib.Core.Option.{some}
use Rattle.casefile.proofs.Passed.{kind_of_number}

pub number_inj : (k k' : Kind) → number k ≡ number k' → k ≡ k'
number_inj k k' e = some_inj (sym (kind_of_number k) ∙ ap kind_of e ∙ kind_of_number k')
  where
    some_inj : some k ≡ some k' → k ≡ k'
    some_inj f = cc

pub stored_set : (a : List ℕ) (i v : ℕ) → v < 65536 → stored a i v ≡ set a i v
unfolding stored
stored_set a i v h = simp (lt-ltb v 65536 h)

pub stored_length : (a : List ℕ) (i v : ℕ) → length (stored a i v) ≡ length a
unfolding stored
stored_length a i v = by (ltb v 65536)
  where
    by : (b : Bool) → length (choose b then set a i v else a) ≡ length a
    by true = length-set a i v
    by false = refl

-- an entry that was stored, and the others
pub stored_here : (a : List ℕ) (i v : ℕ) → v < 65536 → i < length a → get_or (stored a i v) i 0 ≡ v
stored_here a i v h l = ap (λ (b : List ℕ). get_or b i 0) (stored_set a i v h) ∙ get_or-set_same a i v 0 l

pub stored_other : (a : List ℕ) (i v j : ℕ) → (j ≡ i → ⊥) → get_or (stored a i v) j 0 ≡ get_or a j 0
unfolding stored
stored_other a i v j ne = by (ltb v 65536)
  where
    by : (b : Bool) → get_or (choose b then set a i v else a) j 0 ≡ get_or a j 0
    by true = get_or-set_other a i j v 0 ne
    by false = refl

-- the argument counts after a record that is no sort
pub lens_other : (lens : List ℕ) (kind n : ℕ) (p : List ℕ) → (kind ≡ 1 → ⊥) → lens ≡ lens_after lens kind n p
unfolding lens_after
lens_other lens kind n p k = simp (ne_eqb kind 1 k)

pub lens_length : (lens : List ℕ) (kind n : ℕ) (p : List ℕ) → length (lens_after lens kind n p) ≡ length lens
unfolding lens_after
lens_length lens kind n p = by (eqb kind 1)
  where
    by : (b : Bool) → length (choose b then stored lens (n + 1) (get_or lens (word p 2) 0 + 1) else lens) ≡ length lens
    by true = stored_length lens (n + 1) (get_or lens (word p 2) 0 + 1)
    by false = refl

-- the chains after a record that is no type, and after a type
pub chains_other : (index : List ℕ) (kind n : ℕ) (p : List ℕ) → (kind ≡ 7 → ⊥) → index ≡ chains_after index kind n p
unfolding chains_after
chains_other index kind n p k = simp (ne_eqb kind 7 k)

pub chains_set : (index : List ℕ) (kind n : ℕ) (p : List ℕ) → kind ≡ 7 → get_or index (hashes_at + hash_of_spec p) 0 < 65536 → n + 1 < 65536
    → chains_after index kind n p ≡ set (set index (links_at + n) (get_or index (hashes_at + hash_of_spec p) 0)) (hashes_at + hash_of_spec p) (n + 1)
unfolding chains_after
chains_set index kind n p k small few =
    simp (eq-eqb kind 7 k) (ap (λ z. stored z (hashes_at + hash_of_spec p) (n + 1)) (stored_set index (links_at + n) (get_or index (hashes_at + hash_of_spec p) 0) small)
    ∙ stored_set (set index (links_at + n) (get_or index (hashes_at + hash_of_spec p) 0)) (hashes_at + hash_of_spec p) (n + 1) few)

pub chains_length : (index : List ℕ) (kind n : ℕ) (p : List ℕ) → length (chains_after index kind n p) ≡ length index
unfolding chains_after
chains_length index kind n p = by (eqb kind 7)
  where
    by : (b : Bool) → length (choose b then stored (stored index (links_at + n) (get_or index (hashes_at + hash_of_spec p) 0)) (hashes_at + hash_of_spec p) (n + 1) else index) ≡ length index
    by true = stored_length (stored index (links_at + n) (get_or index (hashes_at + hash_of_spec p) 0)) (hashes_at + hash_of_spec p) (n + 1) ∙ stored_length index (links_at + n) (get_or index (hashes_at + hash_of_spec p) 0)
    by false = refl

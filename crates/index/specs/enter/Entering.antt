-- What our own crates promise each other; nothing here has to be believed.
-- The tables of the walk after a record is entered.
use Rattle.std.specs.Prelude.{ℕ, ◌+◌, ◌<◌, ◌≤◌, ◌≡◌, List, ltb, eqb, length, get_or, set}
use Rattle.scheme.specs.Lists.{choose◌then◌else◌}
use Rattle.casefile.specs.Fields.{word}
use Rattle.index.specs.layout.Layout.{hashes_at, links_at}
use Rattle.index.specs.entries.Chains.{hash_of_spec}

-- a table after v was stored at i; a number of over two bytes is not stored
unfoldable pub stored : List ℕ → ℕ → ℕ → List ℕ
stored a i v = choose ltb v 65536 then set a i v else a

-- the argument counts of the sorts after a record of a kind, which is number n of its kind
unfoldable pub lens_after : List ℕ → ℕ → ℕ → List ℕ → List ℕ
lens_after lens kind n p = choose eqb kind 1 then stored lens (n + 1) (get_or lens (word p 2) 0 + 1) else lens

-- the index after a record of a kind, number n of its kind, with the payload p: a type becomes the head of the chain of its hash
unfoldable pub chains_after : List ℕ → ℕ → ℕ → List ℕ → List ℕ
chains_after index kind n p = choose eqb kind 7 then stored (stored index (links_at + n) (get_or index (hashes_at + hash_of_spec p) 0)) (hashes_at + hash_of_spec p) (n + 1) else index

-- n entries of a table from number `from` on are 0, where it has them, and all others are as they were
pub record Clears (before : List ℕ) (from n : ℕ) (after : List ℕ) : Type 0 where
  pub long : length after ≡ length before
  pub below : (j : ℕ) → j < from → get_or after j 0 ≡ get_or before j 0
  pub behind : (j : ℕ) → from + n ≤ j → get_or after j 0 ≡ get_or before j 0
  pub zeros : from + n ≤ length before → (j : ℕ) → j < n → get_or after (from + j) 0 ≡ 0

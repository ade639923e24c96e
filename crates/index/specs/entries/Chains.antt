-- What our own crates promise each other; nothing here has to be believed.
-- Types by the hash of their payloads. Behind its entries the index has a head for each hash, the last type of that hash,
-- and a link for each type, the last type before it of the same hash; types are counted from 1 there, and 0 stands for none.
use Rattle.std.specs.Prelude.{ℕ, zero, suc, ◌+◌, ◌*◌, ◌/◌, ◌%◌, ◌<◌, ◌≡◌, List, [], ◌∷◌, eqb, get_or}
use Rattle.scheme.specs.Lists.{choose◌then◌else◌}
use Rattle.casefile.specs.Fields.{byte}
use Rattle.casefile.specs.Tables.{words}
use Rattle.index.specs.layout.Layout.{hashes, hashes_at, links_at}

-- numbers mixed into a number below 65,536, one after the other
unfoldable pub mixed : ℕ → List ℕ → ℕ
mixed h [] = h
mixed h (w ∷ ws) = mixed ((h + w) * 40503 % 65536) ws

-- the hash of a payload, below 256: its numbers mixed into its first byte, which alone tells states apart
unfoldable pub hash_of_spec : List ℕ → ℕ
hash_of_spec p = mixed (byte p 0 * 256) (words p) / 256 % 256

-- of the first n payloads the last one with hash h, counted from 1; 0 where there is none
unfoldable pub latest : List (List ℕ) → ℕ → ℕ → ℕ
latest ps h zero = 0
latest ps h (suc n) = let before = latest ps h n in choose eqb (hash_of_spec (get_or ps n [])) h then suc n else before

-- the heads and the links of n types with these payloads
pub record Chained (index : List ℕ) (ps : List (List ℕ)) (n : ℕ) : Type 0 where
  pub heads : (h : ℕ) → h < hashes → get_or index (hashes_at + h) 0 ≡ latest ps h n
  pub links : (i : ℕ) → i < n → get_or index (links_at + i) 0 ≡ latest ps (hash_of_spec (get_or ps i [])) i

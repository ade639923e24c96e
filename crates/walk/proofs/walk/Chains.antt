-- The chains of the types: empty at the start of a walk, as they were after a store elsewhere, and with one type more.
use Prim.Native.Nat.{ℕ, zero, suc, ◌+◌, ◌<◌, ◌≤◌}
use native.Mathlib.Omega.{arith}
use native.Mathlib.Decide.{ℕ_discrete, dec_lt}
use mathlib.Core.Path.{◌≡◌, refl, sym, ap, ap₂, ◌∙◌}
use mathlib.Core.List.{List, [], ◌∷◌, ◌++◌}
use lib.Dec.{eqb}
use lib.ListN.{length, get_or, set, length-set, get_or-append}
use lib.Seq.{get_or_at, get_or-set_same, get_or-set_other}
use Rattle.scheme.specs.Lists.{choose◌then◌else◌}
use Rattle.index.specs.layout.Layout.{max_types, hashes, hashes_at, links_at, places_at}
use Rattle.index.specs.entries.Chains.{hash_of_spec, latest, Chained}
use Rattle.index.proofs.chains.Hashing.{hash_few}
use Rattle.index.proofs.chains.Chaining.{latest_here, latest_other}

pub chained_none : (index : List ℕ) → ((h : ℕ) → h < hashes → get_or index (hashes_at + h) 0 ≡ 0) → Chained index [] 0
unfolding latest
chained_none index z = record { heads = z; links = λ i h. absurd (omega arith) }

-- a store among the entries
pub chained_below : (index : List ℕ) (ps : List (List ℕ)) (n place v : ℕ) → place < hashes_at → Chained index ps n → Chained (set index place v) ps n
chained_below index ps n place v l c =
    record {
      heads = λ h k. get_or-set_other index place (hashes_at + h) v 0 (omega arith) ∙ c.heads h k;
      links = λ i k. get_or-set_other index place (links_at + i) v 0 (omega arith) ∙ c.links i k;
    }

-- the last of the first n payloads does not depend on those behind them
latest_more : (ps : List (List ℕ)) (p : List ℕ) (h n : ℕ) → n ≤ length ps → latest (ps ++ (p ∷ [])) h n ≡ latest ps h n
unfolding latest
latest_more ps p h zero l = refl
latest_more ps p h (suc n) l =
    ap₂ (λ (x : List ℕ) (y : ℕ). choose eqb (hash_of_spec x) h then suc n else y) (get_or-append ps (p ∷ []) [] n l) (latest_more ps p h n (omega arith))

-- a type more: its link is the head of its hash, and it becomes that head
module _ (index : List ℕ) (ps : List (List ℕ)) (n : ℕ) (p : List ℕ) (long : places_at ≤ length index) (so_many : length ps ≡ n) (few : n < max_types) (c : Chained index ps n) where
  abbrev head : ℕ
  head = hashes_at + hash_of_spec p

  abbrev linked : List ℕ
  linked = set index (links_at + n) (get_or index head 0)

  abbrev index⁺ : List ℕ
  index⁺ = set linked head (n + 1)

  new_payload : get_or (ps ++ (p ∷ [])) n [] ≡ p
  new_payload = get_or_at ps p [] [] n so_many

  new_head : get_or index⁺ head 0 ≡ suc n
  new_head = get_or-set_same linked head (n + 1) 0 (let a = hash_few p in let b = length-set index (links_at + n) (get_or index head 0) in omega arith) ∙ (omega arith)

  old_head : (h : ℕ) → h < hashes → (hash_of_spec p ≡ h → ⊥) → get_or index⁺ (hashes_at + h) 0 ≡ latest ps h n
  old_head h l ne = get_or-set_other linked head (hashes_at + h) (n + 1) 0 (λ e. ne (omega arith)) ∙ get_or-set_other index (links_at + n) (hashes_at + h) (get_or index head 0) 0 (omega arith) ∙ c.heads h l

  heads_all : (h : ℕ) → h < hashes → get_or index⁺ (hashes_at + h) 0 ≡ latest (ps ++ (p ∷ [])) h (suc n)
  heads_all h l = go (ℕ_discrete (hash_of_spec p) h)
    where
      go : Dec (hash_of_spec p ≡ h) → get_or index⁺ (hashes_at + h) 0 ≡ latest (ps ++ (p ∷ [])) h (suc n)
      go (yes e) = ap (λ z. get_or index⁺ (hashes_at + z) 0) (sym e) ∙ new_head ∙ sym (latest_here (ps ++ (p ∷ [])) h n (ap hash_of_spec new_payload ∙ e))
      go (no ne) = old_head h l ne ∙ sym (latest_other (ps ++ (p ∷ [])) h n (λ e. ne (sym (ap hash_of_spec new_payload) ∙ e)) ∙ latest_more ps p h n (omega arith))

  new_link : get_or index⁺ (links_at + n) 0 ≡ latest (ps ++ (p ∷ [])) (hash_of_spec (get_or (ps ++ (p ∷ [])) n [])) n
  new_link =
      get_or-set_other linked head (links_at + n) (n + 1) 0 (let a = hash_few p in omega arith) ∙ get_or-set_same index (links_at + n) (get_or index head 0) 0 (omega arith)
      ∙ c.heads (hash_of_spec p) (hash_few p) ∙ sym (latest_more ps p (hash_of_spec p) n (omega arith)) ∙ ap (λ z. latest (ps ++ (p ∷ [])) (hash_of_spec z) n) (sym new_payload)

  old_link : (i : ℕ) → i < n → get_or index⁺ (links_at + i) 0 ≡ latest (ps ++ (p ∷ [])) (hash_of_spec (get_or (ps ++ (p ∷ [])) i [])) i
  old_link i l =
      get_or-set_other linked head (links_at + i) (n + 1) 0 (let a = hash_few p in omega arith) ∙ get_or-set_other index (links_at + n) (links_at + i) (get_or index head 0) 0 (omega arith)
      ∙ c.links i l ∙ sym (latest_more ps p (hash_of_spec (get_or ps i [])) i (omega arith)) ∙ ap (λ z. latest (ps ++ (p ∷ [])) (hash_of_spec z) i) (sym (get_or-append ps (p ∷ []) [] i (omega arith)))

  pub chained_more : Chained (set (set index (links_at + n) (get_or index (hashes_at + hash_of_spec p) 0)) (hashes_at + hash_of_spec p) (n + 1)) (ps ++ (p ∷ [])) (suc n)
  chained_more = record { heads = heads_all; links = λ i l. go i l (dec_lt i n) }
    where
      go : (i : ℕ) → i < suc n → Dec (i < n) → get_or index⁺ (links_at + i) 0 ≡ latest (ps ++ (p ∷ [])) (hash_of_spec (get_or (ps ++ (p ∷ [])) i [])) i
      go i l (yes below) = old_link i below
      go i l (no up) = let same : i ≡ n = omega arith in rw same new_link

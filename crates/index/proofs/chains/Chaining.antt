-- Along the chain of a hash every payload of that hash is met, so a payload that is not met on it is not listed.
use Prim.Native.Nat.{ℕ, zero, suc, ◌+◌, ◌-◌, ◌<◌, ◌≤◌}
use native.Mathlib.Omega.{arith}
use native.Mathlib.Decide.{ℕ_discrete}
use mathlib.Core.Path.{◌≡◌, refl, sym, ap, ap₂, ◌∙◌}
use mathlib.Core.Bool.{Bool, true, false, ◌||◌}
use mathlib.Core.List.{List, [], ◌∷◌, ◌++◌}
use borrow.Author.Tests.{eq-eqb, ne_eqb, eqb-true}
use lib.Dec.{eqb}
use lib.ListN.{length, get_or, take}
use lib.Seq.{take-suc, take-length}
use Rattle.scheme.specs.Lists.{any}
use Rattle.scheme.proofs.Lists.{and_true}
use Rattle.casefile.specs.Records.{Record}
use Rattle.casefile.specs.Kinds.{type, payloads}
use Rattle.casefile.specs.Refusals.{same_bytes_spec, repeats}
use Rattle.casefile.proofs.TypeTable.{count_payloads}
use Rattle.index.specs.layout.Layout.{max_types, types_at, hashes_at, links_at}
use Rattle.index.specs.entries.Index.{Indexed}
use Rattle.index.specs.entries.Chains.{hash_of_spec, latest, Chained}
use Rattle.index.proofs.repeats.Seeking.{Same, entry_same}
use Rattle.index.specs.chains.Listing.{Listed}
use Rattle.index.proofs.chains.Hashing.{hash_few}

same_bytes : (p q : List ℕ) → same_bytes_spec p q ≡ true → p ≡ q
unfolding same_bytes_spec
same_bytes [] [] e = refl
same_bytes [] (b ∷ q) e = absurd (let z : ◌≡◌ {A = Bool} false true = e in let y : ◌≡◌ {A = ℕ} 0 1 = cc in omega arith)
same_bytes (a ∷ p) [] e = absurd (let z : ◌≡◌ {A = Bool} false true = e in let y : ◌≡◌ {A = ℕ} 0 1 = cc in omega arith)
same_bytes (a ∷ p) (b ∷ q) e = let (f, g) = and_true (eqb a b) (same_bytes_spec p q) e in ap₂ ◌∷◌ (eqb-true a b f) (same_bytes p q g)

any_last : (f : List ℕ → Bool) (l : List (List ℕ)) (x : List ℕ) → any f (l ++ (x ∷ [])) ≡ (f x || any f l)
unfolding any
any_last f [] x = refl
any_last f (y ∷ l) x = ap (λ b. f y || b) (any_last f l x) ∙ turn (f y) (f x) (any f l)
  where
    turn : (a b c : Bool) → (a || (b || c)) ≡ (b || (a || c))
    turn true true c = refl
    turn true false c = refl
    turn false true c = refl
    turn false false c = refl

-- the last payload of a hash among the first n
module _ (ps : List (List ℕ)) (h : ℕ) where
  pub latest_here : (n : ℕ) → hash_of_spec (get_or ps n []) ≡ h → latest ps h (suc n) ≡ suc n
  unfolding latest
  latest_here n e = simp (eq-eqb (hash_of_spec (get_or ps n [])) h e)

  pub latest_other : (n : ℕ) → (hash_of_spec (get_or ps n []) ≡ h → ⊥) → latest ps h (suc n) ≡ latest ps h n
  unfolding latest
  latest_other n ne = simp (ne_eqb (hash_of_spec (get_or ps n [])) h ne)

  pub latest_few : (n : ℕ) → latest ps h n ≤ n
  unfolding latest
  latest_few zero = omega arith
  latest_few (suc n) = go (latest_few n) (ℕ_discrete (hash_of_spec (get_or ps n [])) h)
    where
      go : latest ps h n ≤ n → Dec (hash_of_spec (get_or ps n []) ≡ h) → latest ps h (suc n) ≤ suc n
      go b (yes e) = let a = latest_here n e in omega arith
      go b (no ne) = let a = latest_other n ne in omega arith

  -- it has the hash
  pub latest_hash : (n i : ℕ) → latest ps h n ≡ suc i → hash_of_spec (get_or ps i []) ≡ h
  unfolding latest
  latest_hash zero i e = absurd (omega arith)
  latest_hash (suc n) i e = go (latest_hash n i) (ℕ_discrete (hash_of_spec (get_or ps n [])) h)
    where
      go : (latest ps h n ≡ suc i → hash_of_spec (get_or ps i []) ≡ h) → Dec (hash_of_spec (get_or ps n []) ≡ h) → hash_of_spec (get_or ps i []) ≡ h
      go r (yes f) = let same : i ≡ n = (let a = latest_here n f in omega arith) in ap (λ k. hash_of_spec (get_or ps k [])) same ∙ f
      go r (no ne) = r (sym (latest_other n ne) ∙ e)

  -- those behind it have another, so a payload of the hash is none of them
  pub latest_any : (p : List ℕ) → hash_of_spec p ≡ h → (n : ℕ) → n ≤ length ps → any (same_bytes_spec p) (take n ps) ≡ any (same_bytes_spec p) (take (latest ps h n) ps)
  unfolding latest
  latest_any p is zero l = refl
  latest_any p is (suc n) l = go (latest_any p is n (omega arith)) (ℕ_discrete (hash_of_spec (get_or ps n [])) h)
    where
      differs : (b : Bool) → same_bytes_spec p (get_or ps n []) ≡ b → (hash_of_spec (get_or ps n []) ≡ h → ⊥) → b ≡ false
      differs true e ne = absurd (ne (ap hash_of_spec (sym (same_bytes p (get_or ps n []) e)) ∙ is))
      differs false e ne = refl

      go : any (same_bytes_spec p) (take n ps) ≡ any (same_bytes_spec p) (take (latest ps h n) ps) → Dec (hash_of_spec (get_or ps n []) ≡ h) → any (same_bytes_spec p) (take (suc n) ps) ≡ any (same_bytes_spec p) (take (latest ps h (suc n)) ps)
      go r (yes e) = ap (λ k. any (same_bytes_spec p) (take k ps)) (sym (latest_here n e))
      go r (no ne) =
          ap (any (same_bytes_spec p)) (take-suc ps n [] l) ∙ any_last (same_bytes_spec p) (take n ps) (get_or ps n [])
          ∙ ap (λ b. b || any (same_bytes_spec p) (take n ps)) (differs (same_bytes_spec p (get_or ps n [])) refl ne)
          ∙ r ∙ ap (λ k. any (same_bytes_spec p) (take k ps)) (sym (latest_other n ne))

-- Along the chain of a payload's hash.
module _ (file index p : List ℕ) where
  -- the first `last` payloads decide, and the last of them has the hash of p
  pub record Left (n last : ℕ) (ps : List (List ℕ)) : Type 0 where
    pub inside : last ≤ n
    pub hashed : (i : ℕ) → last ≡ suc i → hash_of_spec (get_or ps i []) ≡ hash_of_spec p
    pub decides : any (same_bytes_spec p) ps ≡ any (same_bytes_spec p) (take last ps)

  abbrev pub Sought : ℕ → Type 0
  Sought last = (n : ℕ) (rs : List Record) → Indexed file index type n rs → Chained index (payloads type rs) n → n ≤ max_types → length p ≤ 64 → Left n last (payloads type rs)

  so_many : {n : ℕ} {rs : List Record} → Indexed file index type n rs → length (payloads type rs) ≡ n
  so_many {n} {rs} ix = sym (count_payloads type rs) ∙ ix.counted

  -- from the last payload of the hash among the first m, where those behind do not matter
  left_at : (n m last : ℕ) (ps : List (List ℕ)) → length ps ≡ n → m ≤ n → last ≡ latest ps (hash_of_spec p) m → any (same_bytes_spec p) ps ≡ any (same_bytes_spec p) (take m ps) → Left n last ps
  left_at n m last ps long few e d =
      record {
        inside = let a = latest_few ps (hash_of_spec p) m in omega arith;
        hashed = λ i f. latest_hash ps (hash_of_spec p) m i (sym e ∙ f);
        decides = d ∙ latest_any ps (hash_of_spec p) p refl m (omega arith) ∙ ap (λ k. any (same_bytes_spec p) (take k ps)) (sym e);
      }

  pub seek_start : (h last : ℕ) → h ≡ hash_of_spec p → last ≡ get_or index (hashes_at + h) 0 → Sought last
  seek_start h last eh e n rs ix ch few l =
      left_at n n last (payloads type rs) (so_many ix) (omega arith)
      (e ∙ ap (λ z. get_or index (hashes_at + z) 0) eh ∙ ch.heads (hash_of_spec p) (hash_few p))
      (ap (any (same_bytes_spec p)) (sym (take-length (payloads type rs)) ∙ ap (λ k. take k (payloads type rs)) (so_many ix)))

  module _ (last i : ℕ) (v : Bool) (is : i ≡ last - 1) (some : 0 < last) (says : v ≡ Same file index p (types_at + i)) (s : Sought last) where
    module _ {n : ℕ} {rs : List Record} (ix : Indexed file index type n rs) (ch : Chained index (payloads type rs) n) (few : n ≤ max_types) (l : length p ≤ 64) where
      old : Left n last (payloads type rs)
      old = s n rs ix ch few l

      within : i < n
      within = let a = old.inside in omega arith

      told : same_bytes_spec p (get_or (payloads type rs) i []) ≡ v
      told = sym (says ∙ entry_same file index p ix i within)

      -- with the type at hand apart
      apart : any (same_bytes_spec p) (payloads type rs) ≡ (v || any (same_bytes_spec p) (take i (payloads type rs)))
      apart =
          let next : last ≡ suc i = omega arith in
          old.decides ∙ ap (λ k. any (same_bytes_spec p) (take k (payloads type rs))) next
          ∙ ap (any (same_bytes_spec p)) (take-suc (payloads type rs) i [] (let a = so_many ix in let b = within in omega arith)) ∙ any_last (same_bytes_spec p) (take i (payloads type rs)) (get_or (payloads type rs) i [])
          ∙ ap (λ b. b || any (same_bytes_spec p) (take i (payloads type rs))) told

      link : get_or index (links_at + i) 0 ≡ latest (payloads type rs) (hash_of_spec p) i
      link = ch.links i within ∙ ap (λ z. latest (payloads type rs) z i) (old.hashed i (omega arith))

    pub seek_hit : v ≡ true → Listed file index p true
    unfolding repeats
    seek_hit f n rs ix ch few l = sym (apart ix ch few l ∙ ap (λ b. b || any (same_bytes_spec p) (take i (payloads type rs))) f)

    module _ (f : v ≡ false) (before : ℕ) (eb : before ≡ get_or index (links_at + i) 0) where
      pub seek_miss : Sought before
      seek_miss n rs ix ch few l =
          left_at n i before (payloads type rs) (so_many ix) (let a = within ix ch few l in omega arith) (eb ∙ link ix ch few l)
          (apart ix ch few l ∙ ap (λ b. b || any (same_bytes_spec p) (take i (payloads type rs))) f)

      -- a chain only falls
      pub seek_up : i < before → Listed file index p false
      seek_up u n rs ix ch few l = absurd (let a = eb ∙ link ix ch few l in let b = latest_few (payloads type rs) (hash_of_spec p) i in omega arith)

  pub seek_done : (last : ℕ) → last ≤ 0 → Sought last → Listed file index p false
  unfolding repeats any
  seek_done last z s n rs ix ch few l =
      let none : last ≡ 0 = omega arith in
      sym ((s n rs ix ch few l).decides ∙ ap (λ k. any (same_bytes_spec p) (take k (payloads type rs))) none)

-- Earlier entries, read through the index: the last one of a kind, and the constructors' argument counts.
use Prim.Native.Nat.{ℕ, suc, ◌+◌, ◌-◌, ◌<◌, ◌≤◌}
use native.Mathlib.Nat.{add-zero}
use native.Mathlib.Omega.{arith}
use mathlib.Core.Path.{◌≡◌, refl, sym, ap, ◌∙◌}
use mathlib.Core.Bool.{Bool, true, false, not}
use mathlib.Core.List.{List, [], ◌∷◌}
use borrow.Author.Tests.{eqb-true, not-false}
use lib.Dec.{eqb}
use lib.ListN.{length, get_or, length-map, get_or-map}
use Rattle.scheme.specs.Lists.{last_or}
use Rattle.casefile.specs.Fields.{field, byte, word}
use Rattle.casefile.specs.Records.{Record}
use Rattle.casefile.specs.Kinds.{Kind, constructor, transition, binding, of_kind, payloads, count}
use Rattle.casefile.specs.Tables.{arities_of}
use Rattle.casefile.specs.Refusals.{wrong_length, before, follows, misplaced}
use Rattle.index.specs.layout.Layout.{constructors_at, transitions_at, bindings_at}
use Rattle.index.specs.entries.Index.{base, Indexed}
use Rattle.index.specs.entries.Tests.{Fitting}

payloads_length : (k : Kind) (rs : List Record) → length (payloads k rs) ≡ count k rs
unfolding payloads count
payloads_length k rs = length-map (of_kind k rs) (λ (r : Record). r.payload)

-- a length that is not wrong
pub equal : (n m : ℕ) → not (eqb n m) ≡ false → n ≡ m
equal n m e = eqb-true n m (not-false (eqb n m) e)

-- the last payload of a list is its entry with the highest number
last_there : (e : List ℕ) (es : List (List ℕ)) → last_or e es ≡ get_or (e ∷ es) (length es) []
unfolding last_or
last_there e [] = refl
last_there e (x ∷ es) = last_there x es

module _ (earlier : List ℕ → List ℕ → Bool) (p : List ℕ) where
  follows_none : (ps : List (List ℕ)) → length ps ≡ 0 → follows earlier ps p ≡ true
  unfolding follows
  follows_none [] h = refl
  follows_none (e ∷ es) h = absurd (omega arith)

  pub follows_last : (ps : List (List ℕ)) (m : ℕ) → length ps ≡ suc m → follows earlier ps p ≡ earlier (get_or ps m []) p
  unfolding follows
  follows_last [] m h = absurd (omega arith)
  follows_last (e ∷ es) m h =
      let same : length es ≡ m = omega arith in
      ap (λ l. earlier l p) (last_there e es ∙ ap (λ i. get_or (e ∷ es) i []) same)

-- pairs of fields of w bytes at the start of two payloads stand in order
abbrev pub in_order : ℕ → List ℕ → List ℕ → Bool
in_order w e f = before (field w e 0) (field w e w) (field w f 0) (field w f w)

module _ {file index : List ℕ} {k : Kind} {n : ℕ} {rs : List Record} (ix : Indexed file index k n rs) (w : ℕ) (p : List ℕ) where
  -- the first of its kind is in order
  none_before : n ≡ 0 → follows (in_order w) (payloads k rs) p ≡ true
  none_before h = follows_none (in_order w) p (payloads k rs) (payloads_length k rs ∙ ix.counted ∙ h)

  -- another is compared with the last, whose fields the file has
  last_before : 0 < n → w + w ≤ length (get_or (payloads k rs) (n - 1) []) → {place a b : ℕ} → place ≡ get_or index (base k + (n - 1)) 0 → a ≡ field w file place → b ≡ field w file (place + w)
      → follows (in_order w) (payloads k rs) p ≡ before a b (field w p 0) (field w p w)
  last_before h l {place} {a} {b} e f g =
      let many : length (payloads k rs) ≡ suc (n - 1) = payloads_length k rs ∙ ix.counted ∙ omega arith in
      let i : n - 1 < n = omega arith in
      let one : a ≡ field w (get_or (payloads k rs) (n - 1) []) 0 = f ∙ ap (field w file) (e ∙ sym (add-zero (get_or index (base k + (n - 1)) 0))) ∙ ix.field_there (n - 1) i w 0 (omega arith) in
      let two : b ≡ field w (get_or (payloads k rs) (n - 1) []) w = g ∙ ap (λ x. field w file (x + w)) e ∙ ix.field_there (n - 1) i w w l in
      rw (one, two) (follows_last (in_order w) p (payloads k rs) (n - 1) many)

-- test 7, for the first of a kind, and for another, where r is the order of the last before it
module _ {file index : List ℕ} {n : ℕ} {rs : List Record} where
  pub first_binding : (p : List ℕ) → Indexed file index binding n rs → n ≡ 0 → misplaced rs p binding ≡ false
  unfolding misplaced
  first_binding p ix h = rw (none_before ix 2 p h)

  pub first_transition : (p : List ℕ) → Indexed file index transition n rs → n ≡ 0 → misplaced rs p transition ≡ false
  unfolding misplaced
  first_transition p ix h = rw (none_before ix 1 p h)

  module _ (p : List ℕ) (h : 0 < n) {place a b c d : ℕ} {r : Bool} (o : r ≡ before a b c d) where
    pub next_binding : Indexed file index binding n rs → Fitting binding n rs → place ≡ get_or index (bindings_at + (n - 1)) 0
        → a ≡ word file place → b ≡ word file (place + 2) → c ≡ word p 0 → d ≡ word p 2 → misplaced rs p binding ≡ not r
    unfolding misplaced wrong_length
    next_binding ix fit e ea eb ec ed =
        let l = equal (length (get_or (payloads binding rs) (n - 1) [])) 4 (fit (n - 1) (omega arith)) in
        rw (o, ec, ed) (ap not (last_before ix 2 p h (omega arith) e ea eb))

    pub next_transition : Indexed file index transition n rs → Fitting transition n rs → place ≡ get_or index (transitions_at + (n - 1)) 0
        → a ≡ byte file place → b ≡ byte file (place + 1) → c ≡ byte p 0 → d ≡ byte p 1 → misplaced rs p transition ≡ not r
    unfolding misplaced wrong_length
    next_transition ix fit e ea eb ec ed =
        let l = equal (length (get_or (payloads transition rs) (n - 1) [])) 6 (fit (n - 1) (omega arith)) in
        rw (o, ec, ed) (ap not (last_before ix 1 p h (omega arith) e ea eb))

module _ {file index : List ℕ} {n : ℕ} {rs : List Record} (ix : Indexed file index constructor n rs) where
  pub arities_length : length (arities_of rs) ≡ n
  unfolding arities_of
  arities_length = length-map (payloads constructor rs) (λ (p : List ℕ). byte p 0) ∙ payloads_length constructor rs ∙ ix.counted

  -- the argument count of constructor i
  pub arity_there : Fitting constructor n rs → (i : ℕ) → i < n → (place : ℕ) → place ≡ get_or index (constructors_at + i) 0 → get_or (arities_of rs) i 0 ≡ byte file place
  unfolding arities_of wrong_length field
  arity_there fit i h place e =
      let l = equal (length (get_or (payloads constructor rs) i [])) 1 (fit i h) in
      get_or-map (λ (p : List ℕ). byte p 0) (payloads constructor rs) i []
      ∙ sym (ap (field 1 file) (e ∙ sym (add-zero (get_or index (constructors_at + i) 0))) ∙ ix.field_there i h 1 0 (omega arith))

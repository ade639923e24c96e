-- The records of types: the numbers of a payload, and the type they make. A state type has one of the 16 states, and the parts of an arrow are earlier types.
use Prim.Native.Nat.{ℕ, zero, suc, ◌+◌, ◌-◌, ◌*◌, ◌/◌, ◌%◌, ◌<◌, ◌≤◌}
use native.Mathlib.Omega.{arith}
use native.Mathlib.Nat.{le_of_suc-le-suc}
use mathlib.Core.Path.{◌≡◌, refl, sym, ap, subst, ◌∙◌}
use mathlib.Core.Bool.{Bool, true, false, ◌&&◌, ◌||◌}
use mathlib.Core.List.{List, [], ◌∷◌}
use borrow.Author.Tests.{eqb-true, eq-eqb, leb-true, leb-false, not-false}
use lib.Dec.{eqb, leb}
use lib.ListN.{length, get_or, drop}
use Rattle.scheme.specs.Lists.{choose◌then◌else◌, any}
use Rattle.scheme.specs.Types.{Ty, state, arrow, Tys, members}
use Rattle.casefile.specs.Fields.{field, byte, word}
use Rattle.casefile.specs.Records.{Record}
use Rattle.casefile.specs.Kinds.{Kind, payloads, count}
use Rattle.casefile.specs.Refusals.{wrong_length, out_of_range}
use Rattle.casefile.specs.Tables.{words, members_at, arrow_from, type_from, types_of, state_count_spec}
use Rattle.casefile.specs.Promises.{Bytes, Passed}
use Rattle.casefile.proofs.Passed.{entry}
use Rattle.casefile.proofs.Repeats.{get_d_mem}
use Rattle.casefile.proofs.Steps.{words_step, words_done}
use Rattle.casefile.proofs.TypeNumbers.{Shape, a_state, an_arrow}
use Rattle.casefile.proofs.TypeTable.{count_payloads, type_shape, type_made}
use Rattle.transitions.proofs.table.Meaning.{states_few}
use Rattle.index.specs.layout.Layout.{max_states, max_types, types_at}
use Rattle.index.specs.entries.Index.{Indexed}

-- the numbers of a payload, and how many bytes they take
words_length : (p : List ℕ) (i : ℕ) → length (words (drop i p)) ≡ (length p - i) / 2
words_length p i = go (length p - i) i refl
  where
    go : (k j : ℕ) → k ≡ length p - j → length (words (drop j p)) ≡ (length p - j) / 2
    go zero j e = ap length (words_done p j (omega arith)) ∙ omega arith
    go (suc zero) j e = ap length (words_done p j (omega arith)) ∙ omega arith
    go (suc (suc k)) j e = let r = go k (j + 2) (omega arith) in ap length (words_step p j (omega arith)) ∙ omega arith

words_at : (p : List ℕ) (i j : ℕ) → i + 2 * j + 2 ≤ length p → get_or (words (drop i p)) j 0 ≡ word p (i + 2 * j)
words_at p i zero h = let e : i + 2 * 0 ≡ i = omega arith in ap (λ l. get_or l 0 0) (words_step p i (omega arith)) ∙ ap (word p) (sym e)
words_at p i (suc j) h =
    let e : i + 2 + 2 * j ≡ i + 2 * suc j = omega arith in
    ap (λ l. get_or l (suc j) 0) (words_step p i (omega arith)) ∙ words_at p (i + 2) j (omega arith) ∙ ap (word p) e

members_count : (types : List Ty) (ms : List ℕ) → length (members (members_at types ms)) ≡ length ms
unfolding members members_at
members_count types [] = refl
members_count types (m ∷ ms) = ap suc (members_count types ms)

members_at_law : (types : List Ty) (ms : List ℕ) (j : ℕ) → j < length ms → get_or (members (members_at types ms)) j (state 0) ≡ get_or types (get_or ms j 0) (state 0)
unfolding members members_at
members_at_law types [] j h = absurd (omega arith)
members_at_law types (m ∷ ms) zero h = refl
members_at_law types (m ∷ ms) (suc j) h = members_at_law types ms j (le_of_suc-le-suc h)

two_bytes : (l : List ℕ) (i : ℕ) (is : List ℕ) → words l ≡ i ∷ is → 2 ≤ length l
unfolding words
two_bytes [] i is u = let z : ◌≡◌ {A = ℕ} 0 1 = cc in absurd (omega arith)
two_bytes (k ∷ []) i is u = let z : ◌≡◌ {A = ℕ} 0 1 = cc in absurd (omega arith)
two_bytes (k ∷ l ∷ ls) i is u = omega arith

-- a length that a type's payload may have
type_short : (k : ℕ) → wrong_length Kind.type k ≡ false → k ≤ 34
unfolding wrong_length
type_short k e = go (eqb k 1) (leb 2 k) (leb k 34) (eqb (k % 2) 0) refl refl (not-false (eqb k 1 || (leb 2 k && leb k 34 && eqb (k % 2) 0)) e)
  where
    go : (a b c d : Bool) → eqb k 1 ≡ a → leb k 34 ≡ c → (a || (b && c && d)) ≡ true → k ≤ 34
    go true b c d f g h = let z = eqb-true k 1 f in omega arith
    go false true true d f g h = leb-true k 34 g
    go false true false d f g h = let z : ◌≡◌ {A = ℕ} 0 1 = cc in absurd (omega arith)
    go false false c d f g h = let z : ◌≡◌ {A = ℕ} 0 1 = cc in absurd (omega arith)

-- the records passed their tests, and the index has their types
pub record Listed (file index : List ℕ) (n : ℕ) (rs : List Record) : Type 0 where
  pub passed : Passed rs
  pub bytes : (i : ℕ) → Bytes (get_or (payloads Kind.type rs) i [])
  pub there : Indexed file index Kind.type n rs
  pub few : n ≤ max_types

abbrev pub type_at : List Record → ℕ → Ty
type_at rs i = get_or (types_of rs) i (state 0)

abbrev pub payload_at : List Record → ℕ → List ℕ
payload_at rs i = get_or (payloads Kind.type rs) i []

-- what a record says: a state, or an arrow of earlier types
pub data Says (rs : List Record) (i : ℕ) : Type 0 where
  says_state : (q : ℕ) → q < max_states → payload_at rs i ≡ q ∷ [] → type_at rs i ≡ state q → Says rs i
  says_arrow : (a : Tys) (r : Ty) → type_at rs i ≡ arrow a r → (length (payload_at rs i) ≡ 1 → ⊥) → 2 ≤ length (payload_at rs i) → length (payload_at rs i) ≤ 34 → length (members a) ≡ (length (payload_at rs i) - 2) / 2
      → word (payload_at rs i) 0 < i → type_at rs (word (payload_at rs i) 0) ≡ r
      → ((j : ℕ) → j < length (members a) → (word (payload_at rs i) (2 + 2 * j) < i) × (type_at rs (word (payload_at rs i) (2 + 2 * j)) ≡ get_or (members a) j (state 0)))
      → Says rs i

module _ {file index : List ℕ} {n : ℕ} {rs : List Record} (w : Listed file index n rs) where
  pub type_count : length (payloads Kind.type rs) ≡ n
  type_count = sym (count_payloads Kind.type rs) ∙ w.there.counted

  state_small : (i q : ℕ) → i < n → payload_at rs i ≡ q ∷ [] → q < max_states
  unfolding out_of_range field
  state_small i q h x =
      let c = type_count in
      let e = entry w.passed Kind.type i (omega arith) in
      let p = e.payload in
      let is : p ≡ q ∷ [] = sym e.here ∙ x in
      let one = eq-eqb (length p) 1 (ap length is) in
      let test : (choose true then leb (state_count_spec e.earlier) (byte p 0) else any (λ (t : ℕ). leb (count Kind.type e.earlier) t) (words p)) ≡ false
      = subst (λ b. (choose b then leb (state_count_spec e.earlier) (byte p 0) else any (λ (t : ℕ). leb (count Kind.type e.earlier) t) (words p)) ≡ false) one e.passed_tests.ranges in
      let l = leb-false (state_count_spec e.earlier) (byte p 0) test in
      let b : byte p 0 ≡ q = ap (λ z. byte z 0) is ∙ omega arith in
      let f = states_few e.passed in
      omega arith

  payload_short : (i : ℕ) → i < n → length (payload_at rs i) ≤ 34
  payload_short i h =
      let c = type_count in
      let e = entry w.passed Kind.type i (omega arith) in
      subst (λ l. length l ≤ 34) (sym e.here) (type_short (length e.payload) e.passed_tests.fits)

  state_made : (i q : ℕ) → i < n → payload_at rs i ≡ q ∷ [] → type_at rs i ≡ state q
  unfolding type_from field
  state_made i q h e = let c = type_count in type_made w.passed w.bytes i (omega arith) ∙ ap (type_from (types_of rs)) e ∙ ap state (omega arith)

  arrow_made : (i r : ℕ) (ms : List ℕ) → i < n → eqb (length (payload_at rs i)) 1 ≡ false → words (payload_at rs i) ≡ r ∷ ms → type_at rs i ≡ arrow (members_at (types_of rs) ms) (type_at rs r)
  unfolding type_from arrow_from
  arrow_made i r ms h a b = let c = type_count in type_made w.passed w.bytes i (omega arith) ∙ rw (a, b)

  pub says : (i : ℕ) → i < n → Says rs i
  says i h = let c = type_count in by (type_shape w.passed w.bytes i (omega arith))
    where
      p : List ℕ
      p = payload_at rs i

      by : Shape i p → Says rs i
      by (a_state q x) = says_state q (state_small i q h x) x (state_made i q h x)
      by (an_arrow r ms x y hr hms asc pairs) =
          let long : 2 ≤ length p = two_bytes p r ms y in
          let heads : word p 0 ∷ words (drop 2 p) ≡ r ∷ ms = sym (words_step p 0 (omega arith)) ∙ y in
          let hw : word p 0 ≡ r = cc in
          let tw : words (drop 2 p) ≡ ms = cc in
          let many : length (members (members_at (types_of rs) ms)) ≡ length ms = members_count (types_of rs) ms in
          let bytes : length ms ≡ (length p - 2) / 2 = ap length (sym tw) ∙ words_length p 2 in
          let number_at : (j : ℕ) → j < length ms → word p (2 + 2 * j) ≡ get_or ms j 0 = λ j k. sym (words_at p 2 j (omega arith)) ∙ ap (λ l. get_or l j 0) tw in
          says_arrow (members_at (types_of rs) ms) (type_at rs r) (arrow_made i r ms h x y) (λ z. let u = eq-eqb (length p) 1 z in let v : ◌≡◌ {A = ℕ} 0 1 = cc in omega arith) long (payload_short i h) (many ∙ bytes) (omega arith) (ap (type_at rs) hw)
          (λ j k. let l = hms (get_or ms j 0) (get_d_mem ms j 0 (omega arith)) in let q = number_at j (omega arith) in (omega arith, ap (type_at rs) q ∙ sym (members_at_law (types_of rs) ms j (omega arith))))

  -- the length and the fields of a record, where the file has them
  module _ (i : ℕ) (h : i < n) where
    pub start_there : 4 ≤ get_or index (types_at + i) 0
    start_there = w.there.behind_header i h

    pub length_there : word file (get_or index (types_at + i) 0 - 4) ≡ length (payload_at rs i)
    length_there = let b = start_there in let z : (get_or index (types_at + i) 0 - 4) + 4 ≡ get_or index (types_at + i) 0 = omega arith in w.there.length_there i (get_or index (types_at + i) 0 - 4) h z

    pub field_there : (k at : ℕ) → at + k ≤ length (payload_at rs i) → field k file (get_or index (types_at + i) 0 + at) ≡ field k (payload_at rs i) at
    field_there k at l = w.there.field_there i h k at l

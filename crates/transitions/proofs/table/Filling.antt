-- The table is filled from the last transition to the first.
use Prim.Native.Nat.{ℕ, suc, ◌+◌, ◌-◌, ◌<◌, ◌≤◌}
use native.Mathlib.Nat.{add-zero}
use native.Mathlib.Omega.{arith}
use native.Mathlib.Decide.{ℕ_discrete, dec_lt}
use mathlib.Core.Path.{◌≡◌, refl, sym, ap, ◌∙◌}
use mathlib.Core.Bool.{◌&&◌}
use mathlib.Core.List.{List, [], ◌∷◌}
use borrow.Author.Tests.{eq-eqb, ne_eqb, eqb-true, not-false}
use lib.Dec.{eqb}
use lib.ListN.{length, get_or, set, drop, replicate, length-set, get_or-replicate}
use lib.Seq.{get_or-set_same, get_or-set_other, drop-cons, drop-length}
use Rattle.scheme.specs.Lists.{choose◌then◌else◌}
use Rattle.scheme.proofs.Lists.{and_no}
use Rattle.casefile.specs.Fields.{byte}
use Rattle.casefile.specs.Records.{Record}
use Rattle.casefile.specs.Kinds.{Kind, payloads}
use Rattle.casefile.specs.Refusals.{wrong_length}
use Rattle.casefile.proofs.Passed.{entry}
use Rattle.casefile.specs.Promises.{Passed}
use Rattle.casefile.proofs.TypeTable.{count_payloads}
use Rattle.index.specs.layout.Layout.{max_constructors, max_states, max_transitions, transitions_at}
use Rattle.index.specs.entries.Index.{Indexed}
use Rattle.transitions.specs.table.Moves.{row_at, four_at, row_for, Shaped, Sofar}

-- a row and a table without transitions
abbrev pub no_row : List ℕ
no_row = 255 ∷ 255 ∷ 255 ∷ 255 ∷ []

abbrev pub blank : List (List (List ℕ))
blank = replicate max_states (replicate max_constructors no_row)

blank_shaped : Shaped blank
blank_shaped = record { states = refl; constructors = λ q h. ap length (get_or-replicate max_states q (replicate max_constructors no_row) [] h) }

blank_row : (q c : ℕ) → q < max_states → c < max_constructors → row_at blank q c ≡ no_row
blank_row q c h k = rw (get_or-replicate max_states q (replicate max_constructors no_row) [] h) (get_or-replicate max_constructors c no_row [] k)

module _ (t : List (List (List ℕ))) (w : Shaped t) (a b : ℕ) (r : List ℕ) (ha : a < max_states) (hb : b < max_constructors) where
  put_shaped : Shaped (set t a (set (get_or t a []) b r))
  put_shaped = record { states = length-set t a _ ∙ w.states; constructors = λ q h. go q h (ℕ_discrete q a) }
    where
      go : (q : ℕ) → q < max_states → Dec (q ≡ a) → length (get_or (set t a (set (get_or t a []) b r)) q []) ≡ max_constructors
      go q h (yes e) = rw (e, get_or-set_same t a (set (get_or t a []) b r) [] (omega (arith, w.states))) (length-set (get_or t a []) b r ∙ w.constructors a ha)
      go q h (no ne) = rw (get_or-set_other t a q (set (get_or t a []) b r) [] ne) (w.constructors q h)

  put_row : (q c : ℕ) → row_at (set t a (set (get_or t a []) b r)) q c ≡ (choose eqb a q && eqb b c then r else row_at t q c)
  put_row q c = go (ℕ_discrete q a) (ℕ_discrete c b)
    where
      go : Dec (q ≡ a) → Dec (c ≡ b) → row_at (set t a (set (get_or t a []) b r)) q c ≡ (choose eqb a q && eqb b c then r else row_at t q c)
      go (yes e) (yes f) = rw (eq-eqb a q (sym e), eq-eqb b c (sym f), e, f, get_or-set_same t a (set (get_or t a []) b r) [] (omega (arith, w.states))) (get_or-set_same (get_or t a []) b r [] (omega (arith, w.constructors a ha)))
      go (yes e) (no nf) = rw (eq-eqb a q (sym e), ne_eqb b c (λ z. nf (sym z)), e, get_or-set_same t a (set (get_or t a []) b r) [] (omega (arith, w.states))) (get_or-set_other (get_or t a []) b c r [] nf)
      go (no ne) d = rw (ne_eqb a q (λ z. ne (sym z))) (ap (λ (l : List (List ℕ)). get_or l c []) (get_or-set_other t a q (set (get_or t a []) b r) [] ne))

-- a payload of a transition that passed has six bytes
pub six : {rs : List Record} → Passed rs → (i : ℕ) → i < length (payloads Kind.transition rs) → length (get_or (payloads Kind.transition rs) i []) ≡ 6
unfolding wrong_length
six {rs} ok i h =
    let e = entry ok Kind.transition i h in
    ap length e.here ∙ eqb-true (length e.payload) 6 (not-false (eqb (length e.payload) 6) e.passed_tests.fits)

-- a transition of another state, or of another constructor
pub other_state : (q c x y : ℕ) (four others : List ℕ) → max_states ≤ q → x < max_states → others ≡ (choose eqb q x && eqb c y then four else others)
other_state q c x y four others l h = rw (ne_eqb q x (λ z. omega arith))

pub other_constructor : (q c x y : ℕ) (four others : List ℕ) → max_constructors ≤ c → y < max_constructors → others ≡ (choose eqb q x && eqb c y then four else others)
other_constructor q c x y four others l h = rw (ne_eqb c y (λ z. omega arith), and_no (eqb q x))

module _ (file index : List ℕ) (n : ℕ) where
  module _ {rs : List Record} (ok : Passed rs) (ix : Indexed file index Kind.transition n rs) (i : ℕ) (h : i < n) (at : ℕ) (e : at ≡ get_or index (transitions_at + i) 0) where
    many : length (payloads Kind.transition rs) ≡ n
    many = sym (count_payloads Kind.transition rs) ∙ ix.counted

    -- a byte of the transition is in the file
    there : (j : ℕ) → j < 6 → byte file (at + j) ≡ byte (get_or (payloads Kind.transition rs) i []) j
    there j l = let s = six ok i (omega (arith, many)) in ap (λ z. byte file (z + j)) e ∙ ix.field_there i h 1 j (omega arith)

    row_here : (q c : ℕ) → row_for (drop i (payloads Kind.transition rs)) q c ≡ (choose eqb (byte file at) q && eqb (byte file (at + 1)) c then four_at file at else row_for (drop (suc i) (payloads Kind.transition rs)) q c)
    unfolding row_for
    row_here q c =
        let first : byte file at ≡ byte (get_or (payloads Kind.transition rs) i []) 0 = ap (byte file) (sym (add-zero at)) ∙ there 0 (omega arith) in
        rw (drop-cons (payloads Kind.transition rs) i [] (omega (arith, many)), first, there 1 (omega arith), there 2 (omega arith), there 3 (omega arith), there 4 (omega arith), there 5 (omega arith))

  -- behind the last transition there is none
  pub none_behind : {rs : List Record} → Indexed file index Kind.transition n rs → (q c : ℕ) → row_for (drop n (payloads Kind.transition rs)) q c ≡ no_row
  unfolding row_for
  none_behind {rs} ix q c = ap (λ l. row_for l q c) (ap (λ m. drop m (payloads Kind.transition rs)) (sym ix.counted ∙ count_payloads Kind.transition rs) ∙ drop-length (payloads Kind.transition rs))

  -- the rows from a transition on, by those behind it
  pub row_back : {rs : List Record} → Passed rs → Indexed file index Kind.transition n rs → (k : ℕ) → 0 < k → k ≤ n → (at : ℕ) → at ≡ get_or index (transitions_at + (k - 1)) 0 → (q c : ℕ) → q ≡ byte file at → c ≡ byte file (at + 1)
      → (x y : ℕ) (others : List ℕ) → others ≡ row_for (drop k (payloads Kind.transition rs)) x y → row_for (drop (k - 1) (payloads Kind.transition rs)) x y ≡ (choose eqb q x && eqb c y then four_at file at else others)
  row_back {rs} ok ix k h few at e q c hq hc x y others same =
      let back : suc (k - 1) ≡ k = omega arith in
      rw (hq, hc) (row_here ok ix (k - 1) (omega arith) at e x y
      ∙ ap (λ l. choose eqb (byte file at) x && eqb (byte file (at + 1)) y then four_at file at else l) (ap (λ m. row_for (drop m (payloads Kind.transition rs)) x y) back ∙ sym same))

  pub sofar_none : n ≤ max_transitions → Sofar file index n blank n
  sofar_none h = record { count = omega arith; few = h; shaped = blank_shaped; rows = λ rs ok ix q c hq hc. blank_row q c hq hc ∙ sym (none_behind ix q c) }

  module _ (t : List (List (List ℕ))) (k : ℕ) (so : Sofar file index n t k) (h : 0 < k) (at : ℕ) (e : at ≡ get_or index (transitions_at + (k - 1)) 0) (q c : ℕ) (hq : q ≡ byte file at) (hc : c ≡ byte file (at + 1)) where
    here : {rs : List Record} → Passed rs → Indexed file index Kind.transition n rs → (x y : ℕ) → x < max_states → y < max_constructors → row_for (drop (k - 1) (payloads Kind.transition rs)) x y ≡ (choose eqb q x && eqb c y then four_at file at else row_at t x y)
    here {rs} ok ix x y hx hy = row_back ok ix k h so.count at e q c hq hc x y (row_at t x y) (so.rows rs ok ix x y hx hy)

    pub sofar_put : q < max_states → c < max_constructors → (a b d f : ℕ) → a ≡ byte file (at + 2) → b ≡ byte file (at + 3) → d ≡ byte file (at + 4) → f ≡ byte file (at + 5)
        → Sofar file index n (set t q (set (get_or t q []) c (a ∷ b ∷ d ∷ f ∷ []))) (k - 1)
    sofar_put lq lc a b d f ea eb ed ef =
        let r = a ∷ b ∷ d ∷ f ∷ [] in
        let same : r ≡ four_at file at = rw (ea, eb, ed, ef) in
        record {
          count = omega (arith, so.count);
          few = so.few;
          shaped = put_shaped t so.shaped q c r lq lc;
          rows = λ rs ok ix x y hx hy. put_row t so.shaped q c r lq lc x y ∙ ap (λ l. choose eqb q x && eqb c y then l else row_at t x y) same ∙ sym (here ok ix x y hx hy);
        }

    sofar_state : max_states ≤ q → Sofar file index n t (k - 1)
    sofar_state l =
        record {
          count = omega (arith, so.count);
          few = so.few;
          shaped = so.shaped;
          rows = λ rs ok ix x y hx hy. other_state q c x y (four_at file at) (row_at t x y) l hx ∙ sym (here ok ix x y hx hy);
        }

    sofar_constructor : max_constructors ≤ c → Sofar file index n t (k - 1)
    sofar_constructor l =
        record {
          count = omega (arith, so.count);
          few = so.few;
          shaped = so.shaped;
          rows = λ rs ok ix x y hx hy. other_constructor q c x y (four_at file at) (row_at t x y) l hy ∙ sym (here ok ix x y hx hy);
        }

    pub sofar_other : (q < max_states → max_constructors ≤ c) → Sofar file index n t (k - 1)
    sofar_other l = by (dec_lt q max_states)
      where
        by : Dec (q < max_states) → Sofar file index n t (k - 1)
        by (yes h) = sofar_constructor (l h)
        by (no h) = sofar_state (omega arith)

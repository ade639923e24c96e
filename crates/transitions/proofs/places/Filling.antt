-- The places of the transitions, cleared, and then entered from the last transition to the first.
use Prim.Native.Nat.{ℕ, zero, suc, ◌+◌, ◌-◌, ◌*◌, ◌<◌, ◌≤◌}
use native.Mathlib.Nat.{add-zero}
use native.Mathlib.Omega.{arith}
use native.Mathlib.Decide.{ℕ_discrete}
use mathlib.Core.Path.{◌≡◌, refl, sym, ap, ap₂, ◌∙◌}
use mathlib.Core.Bool.{Bool, true, false, ◌&&◌}
use mathlib.Core.List.{List, [], ◌∷◌, map}
use mathlib.Core.Option.{Option, none, some}
use borrow.Author.Tests.{eq-eqb, ne_eqb, eqb-false}
use lib.Dec.{eqb}
use lib.ListN.{length, get_or, take, drop}
use Rattle.scheme.specs.Lists.{choose◌then◌else◌}
use Rattle.scheme.proofs.Lists.{and_no}
use Rattle.casefile.specs.Fields.{byte}
use Rattle.casefile.specs.Records.{Record}
use Rattle.casefile.specs.Kinds.{Kind, payloads}
use Rattle.casefile.specs.Tables.{arities_of, transition_of, transitions_of, targets_at}
use Rattle.casefile.specs.Promises.{Passed}
use Rattle.casefile.proofs.TypeTable.{count_payloads}
use Rattle.index.specs.layout.Layout.{max_constructors, max_states, max_transitions, transitions_at, index_size}
use Rattle.index.specs.entries.Index.{Indexed}
use Rattle.index.specs.entries.Tests.{IsPlace}
use Rattle.index.proofs.entries.Stays.{indexed_same}
use Rattle.index.specs.enter.Entering.{stored, Clears}
use Rattle.index.proofs.enter.Storing.{stored_length, stored_here, stored_other}
use Rattle.transitions.specs.table.Moves.{four_at, row_for, targets_in}
use Rattle.transitions.proofs.table.Filling.{no_row, six, none_behind, row_back, other_state, other_constructor}
use Rattle.transitions.proofs.table.Meaning.{row_means}
use Rattle.transitions.specs.places.RowPlaces.{row_base, place_in, targets_from, FillsRows}
use Rattle.transitions.proofs.places.Rows.{row_from, row_in, row_none, row_some}

-- The row of each state and constructor after a place was stored for one of them.
module _ (file index : List ℕ) (q c at : ℕ) (lq : q < max_states) (lc : c < max_constructors) (long : index_size ≤ length index) (small : at < 65536) (some_place : 4 ≤ at) where
  put_row : (x y : ℕ) → y < max_constructors → row_in file (stored index (row_base + (q * max_constructors + c)) at) x y ≡ (choose eqb q x && eqb c y then four_at file at else row_in file index x y)
  put_row x y ly = go (ℕ_discrete q x) (ℕ_discrete c y)
    where
      other : (row_base + (x * max_constructors + y) ≡ row_base + (q * max_constructors + c) → ⊥) → row_in file (stored index (row_base + (q * max_constructors + c)) at) x y ≡ row_in file index x y
      other ne = ap (row_from file) (stored_other index (row_base + (q * max_constructors + c)) at (row_base + (x * max_constructors + y)) ne)

      go : Dec (q ≡ x) → Dec (c ≡ y) → row_in file (stored index (row_base + (q * max_constructors + c)) at) x y ≡ (choose eqb q x && eqb c y then four_at file at else row_in file index x y)
      go (yes e) (yes f) = rw (eq-eqb q x e, eq-eqb c y f, ← e, ← f) (ap (row_from file) (stored_here index (row_base + (q * max_constructors + c)) at small (omega arith)) ∙ sym (row_some file at (λ z. omega arith)))
      go (yes e) (no nf) = rw (ne_eqb c y nf, and_no (eqb q x)) (other (λ z. nf (omega arith)))
      go (no ne) d = rw (ne_eqb q x ne) (other (λ z. ne (omega arith)))

-- Where a place is entered a transition is there, so that no first target is taken for 255.
-- a transition has a state and a constructor
pub record There (file before : List ℕ) (n q c : ℕ) : Type 0 where
  pub number : ℕ
  pub inside : number < n
  pub from : byte file (get_or before (transitions_at + number) 0) ≡ q
  pub over : byte file (get_or before (transitions_at + number) 0 + 1) ≡ c

listed : (arities : List ℕ) (ps : List (List ℕ)) (i : ℕ) → i < length ps → targets_at (map (transition_of arities) ps) (byte (get_or ps i []) 0) (byte (get_or ps i []) 1) ≡ none → ⊥
unfolding targets_at transition_of
listed arities [] i h e = absurd (omega arith)
listed arities (p ∷ ps) zero h e =
    let here = eq-eqb (byte p 0) (byte p 0) refl in
    let over = eq-eqb (byte p 1) (byte p 1) refl in
    let z : ◌≡◌ {A = ℕ} 0 1 = cc in
    absurd (omega arith)
listed arities (p ∷ ps) (suc i) h e = go (eqb (byte p 0) (byte (get_or ps i []) 0) && eqb (byte p 1) (byte (get_or ps i []) 1)) (listed arities ps i (omega arith)) e
  where
    go : (b : Bool) → (targets_at (map (transition_of arities) ps) (byte (get_or ps i []) 0) (byte (get_or ps i []) 1) ≡ none → ⊥)
        → (choose b then some (take (get_or arities (byte p 1) 0) (drop 2 p)) else targets_at (map (transition_of arities) ps) (byte (get_or ps i []) 0) (byte (get_or ps i []) 1)) ≡ none → ⊥
    go true others e = let z : ◌≡◌ {A = ℕ} 0 1 = cc in absurd (omega arith)
    go false others e = others e

there_some : {file before : List ℕ} {n : ℕ} {rs : List Record} → Passed rs → Indexed file before Kind.transition n rs → (q c : ℕ) → There file before n q c → targets_at (transitions_of rs) q c ≡ none → ⊥
unfolding transitions_of
there_some {file} {before} {n} {rs} ok ix q c t e =
    let ps = payloads Kind.transition rs in
    let i = t.number in
    let inside : i < length ps = omega (arith, t.inside, count_payloads Kind.transition rs, ix.counted) in
    let long = six ok i inside in
    let from : byte (get_or ps i []) 0 ≡ q = sym (ix.field_there i t.inside 1 0 (omega arith)) ∙ ap (byte file) (add-zero (get_or before (transitions_at + i) 0)) ∙ t.from in
    let over : byte (get_or ps i []) 1 ≡ c = sym (ix.field_there i t.inside 1 1 (omega arith)) ∙ t.over in
    listed (arities_of rs) ps i inside (ap₂ (targets_at (map (transition_of (arities_of rs)) ps)) from over ∙ e)

targets_row : (file : List ℕ) (arity place : ℕ) (o : Option (List ℕ)) → targets_in arity (row_from file place) ≡ o → ((place ≡ 0 → ⊥) → o ≡ none → ⊥) → targets_from file arity place ≡ o
unfolding targets_in row_from targets_from
targets_row file arity place o e there = go (eqb place 0) refl e
  where
    taken : (b : Bool) → (place ≡ 0 → ⊥) → (choose b then none else some (take arity (four_at file place))) ≡ o → some (take arity (four_at file place)) ≡ o
    taken true ne e = absurd (there ne (sym e))
    taken false ne e = e

    go : (b : Bool) → eqb place 0 ≡ b → targets_in arity (choose b then no_row else four_at file place) ≡ o → (choose b then none else some (take arity (four_at file place))) ≡ o
    go true f e = e
    go false f e = taken (eqb (byte file (place + 2)) 255) (eqb-false place 0 f) e

-- The transitions from number k on are entered in an index that had none; all up to the places is as it was.
pub record Sofar (file before : List ℕ) (n k : ℕ) (index : List ℕ) : Type 0 where
  pub count : k ≤ n
  pub few : n ≤ max_transitions
  pub long : length index ≡ length before
  pub stays : (i : ℕ) → i < row_base → get_or index i 0 ≡ get_or before i 0
  pub rows : (rs : List Record) → Passed rs → Indexed file before Kind.transition n rs → index_size ≤ length before → (q c : ℕ) → q < max_states → c < max_constructors → row_in file index q c ≡ row_for (drop k (payloads Kind.transition rs)) q c
  pub there : index_size ≤ length before → (q c : ℕ) → q < max_states → c < max_constructors → (place_in index q c ≡ 0 → ⊥) → There file before n q c

module _ {file before : List ℕ} {n : ℕ} where
  pub sofar_none : {index : List ℕ} → n ≤ max_transitions → Clears before row_base max_transitions index → Sofar file index n n index
  sofar_none {index} h e =
      record {
        count = omega arith;
        few = h;
        long = refl;
        stays = λ i l. refl;
        rows = λ rs ok ix l q c hq hc. sym (row_none file (get_or index (row_base + (q * max_constructors + c)) 0) (e.zeros (omega (arith, e.long)) (q * max_constructors + c) (omega arith))) ∙ sym (none_behind file index n ix q c);
        there = λ l q c hq hc ne. absurd (ne (e.zeros (omega (arith, e.long)) (q * max_constructors + c) (omega arith)));
      }

  module _ {k : ℕ} {index : List ℕ} (so : Sofar file before n k index) (h : 0 < k) (at : ℕ) (is : IsPlace index (transitions_at + (k - 1)) at) (q c : ℕ) (hq : q ≡ byte file at) (hc : c ≡ byte file (at + 1)) where
    place : at ≡ get_or before (transitions_at + (k - 1)) 0
    place = is.value ∙ so.stays (transitions_at + (k - 1)) (omega (arith, so.count, so.few))

    here : {rs : List Record} → Passed rs → Indexed file before Kind.transition n rs → index_size ≤ length before → (x y : ℕ) → x < max_states → y < max_constructors → row_for (drop (k - 1) (payloads Kind.transition rs)) x y ≡ (choose eqb q x && eqb c y then four_at file at else row_in file index x y)
    here {rs} ok ix l x y hx hy = row_back file before n ok ix k h so.count at place q c hq hc x y (row_in file index x y) (so.rows rs ok ix l x y hx hy)

    pub sofar_put : q < max_states → c < max_constructors → {after : List ℕ} → after ≡ stored index (row_base + (q * max_constructors + c)) at → Sofar file before n (k - 1) after
    sofar_put lq lc {after} e =
        record {
          count = omega (arith, so.count);
          few = so.few;
          long = ap length e ∙ stored_length index (row_base + (q * max_constructors + c)) at ∙ so.long;
          stays = λ i l. ap (λ a. get_or a i 0) e ∙ stored_other index (row_base + (q * max_constructors + c)) at i (λ z. omega arith) ∙ so.stays i l;
          rows = λ rs ok ix l x y hx hy.
              let some_place : 4 ≤ at = omega (arith, ix.behind_header (k - 1) (omega (arith, so.count)), place) in
              ap (λ a. row_in file a x y) e ∙ put_row file index q c at lq lc (omega (arith, so.long)) is.bound some_place x y hy ∙ sym (here ok ix l x y hx hy);
          there = λ l x y hx hy ne. go l x y hx hy (λ z. ne (ap (λ a. place_in a x y) e ∙ z)) (ℕ_discrete q x) (ℕ_discrete c y);
        }
      where
        other : (x y : ℕ) → index_size ≤ length before → x < max_states → y < max_constructors → (place_in (stored index (row_base + (q * max_constructors + c)) at) x y ≡ 0 → ⊥) → (row_base + (x * max_constructors + y) ≡ row_base + (q * max_constructors + c) → ⊥) → There file before n x y
        other x y l hx hy ne far = so.there l x y hx hy (λ z. ne (stored_other index (row_base + (q * max_constructors + c)) at (row_base + (x * max_constructors + y)) far ∙ z))

        go : index_size ≤ length before → (x y : ℕ) → x < max_states → y < max_constructors → (place_in (stored index (row_base + (q * max_constructors + c)) at) x y ≡ 0 → ⊥) → Dec (q ≡ x) → Dec (c ≡ y) → There file before n x y
        go l x y hx hy ne (yes f) (yes g) =
            record {
              number = k - 1;
              inside = omega (arith, so.count);
              from = ap (byte file) (sym place) ∙ sym hq ∙ f;
              over = ap (λ a. byte file (a + 1)) (sym place) ∙ sym hc ∙ g;
            }
        go l x y hx hy ne (yes f) (no g) = other x y l hx hy ne (λ z. g (omega arith))
        go l x y hx hy ne (no f) d = other x y l hx hy ne (λ z. f (omega arith))

    pub sofar_state : max_states ≤ q → Sofar file before n (k - 1) index
    sofar_state l =
        record {
          count = omega (arith, so.count);
          few = so.few;
          long = so.long;
          stays = so.stays;
          rows = λ rs ok ix room x y hx hy. other_state q c x y (four_at file at) (row_in file index x y) l hx ∙ sym (here ok ix room x y hx hy);
          there = so.there;
        }

    pub sofar_constructor : max_constructors ≤ c → Sofar file before n (k - 1) index
    sofar_constructor l =
        record {
          count = omega (arith, so.count);
          few = so.few;
          long = so.long;
          stays = so.stays;
          rows = λ rs ok ix room x y hx hy. other_constructor q c x y (four_at file at) (row_in file index x y) l hy ∙ sym (here ok ix room x y hx hy);
          there = so.there;
        }

  -- the index before it was cleared has the same transitions
  pub all_rows : {k : ℕ} {cleared index : List ℕ} → Clears before row_base max_transitions cleared → Sofar file cleared n k index → k ≤ 0 → FillsRows file before n index
  all_rows {k} {cleared} {index} e so h =
      let none_left : k ≡ 0 = omega arith in
      record {
        long = so.long ∙ e.long;
        stays = λ i l. so.stays i l ∙ e.below i l;
        rows = λ rs ok ix few l.
            let ix' : Indexed file cleared Kind.transition n rs = indexed_same (λ i j. e.below (transitions_at + i) (omega arith)) ix in
            record {
              targets = λ q c hq hc.
                  let row = so.rows rs ok ix' (omega (arith, e.long)) q c hq hc ∙ ap (λ m. row_for (drop m (payloads Kind.transition rs)) q c) none_left in
                  targets_row file (get_or (arities_of rs) c 0) (place_in index q c) (targets_at (transitions_of rs) q c) (ap (targets_in (get_or (arities_of rs) c 0)) row ∙ row_means ok q c) (λ ne. there_some ok ix' q c (so.there (omega (arith, e.long)) q c hq hc ne));
            };
      }

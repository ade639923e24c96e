-- The rows of states, types and bindings as they are filled, one after another. A row is entered by stores of its cells; each store leaves all
-- other cells as they were, so what is so of an earlier row stays so.
use Prim.Native.Nat.{ℕ, ◌+◌, ◌*◌, ◌/◌, ◌%◌, ◌<◌, ◌≤◌}
use native.Mathlib.Omega.{arith}
use native.Mathlib.Decide.{dec_lt, ℕ_discrete}
use mathlib.Core.Path.{◌≡◌, refl, sym, ap, subst, ◌∙◌}
use mathlib.Core.Logic.{◌⊎◌, inl, inr}
use mathlib.Core.List.{List}
use lib.ListN.{length, get_or, set}
use lib.Seq.{get_or-set_same, get_or-set_other}
use Rattle.casefile.specs.Fields.{word}
use Rattle.index.specs.layout.Layout.{max_states, max_types, max_bindings, max_members, bindings_at, rows_at, row_cells, goal_cell, near_cell, low_cell, high_cell, members_cell, word_bits, no_number, pairs_at, pair_cells}
use Rattle.index.specs.enter.Entering.{stored}
use Rattle.marks.specs.Marks.{bit_of}
use Rattle.tables.specs.Facts.{StateRow}
use Rattle.tables.specs.Frames.{Within, Adds}
use Rattle.tables.specs.declared.types.Among.{Among}
use Rattle.tables.specs.reading.Cells.{row_at, cell_of, end_of, member_of_spec, mask_of, symbol_of, own_of}
use Rattle.std.specs.Prelude.{Option, None, Some, MatchOption}
use Rattle.std.specs.Option.{unwrap_or}
use Rattle.tables.specs.declared.types.Near.{Near}
use Rattle.tables.specs.types.Rows.{row_of, goal_of_spec, member_in, Room, FillsStates, CountsMembers, FillsMembers, StatesAmong, ArrowsAmong, NearAmong, AddsMember, FillsArrow, TypeSays, FillsTypes, FillsBindings}
use Rattle.tables.proofs.Frames.{Put, within_none, within_then, within_wider, store_long, store_here, store_other, within_store, within_set, stores, other_row}

-- The states.
pub record StatesTo (before : List ℕ) (q : ℕ) (t : List ℕ) : Type 0 where
  pub up_to : q ≤ max_states
  pub within : Within rows_at (rows_at + max_states * row_cells) before t
  pub rows : rows_at + max_states * row_cells ≤ length before → (p : ℕ) → p < q → StateRow t p

module _ {before : List ℕ} {q : ℕ} {t : List ℕ} (so : StatesTo before q t) where
  pub states_more : q < max_states → (row : ℕ) → row ≡ row_at q → (a b c : List ℕ) → a ≡ stored t (row + 0) 65535 → b ≡ stored a (row + 1) q → c ≡ stored b (row + 4) 0 → StatesTo before (q + 1) c
  states_more h row er a b c ea eb ec =
      record {
        up_to = omega arith;
        within = within_then so.within (within_wider rows_at (rows_at + max_states * row_cells) (omega arith) (omega arith) step);
        rows = λ l p k. row_at_law l p k (ℕ_discrete p q);
      }
    where
      pa : Put t (row + 0) 65535 a
      pa = record { is = ea }

      pb : Put a (row + 1) q b
      pb = record { is = eb }

      pc : Put b (row + 4) 0 c
      pc = record { is = ec }

      step : Within (row_at q) (row_at q + row_cells) t c
      step = within_then (within_store pa (omega arith) (omega arith)) (within_then (within_store pb (omega arith) (omega arith)) (within_store pc (omega arith) (omega arith)))

      row_at_law : rows_at + max_states * row_cells ≤ length before → (p : ℕ) → p < q + 1 → Dec (p ≡ q) → StateRow c p
      row_at_law l p k (no z) =
          let y : (p ≡ q → ⊥) = z in
          let old = so.rows l p (omega arith) in
          let same : (j : ℕ) → j < row_cells → cell_of c p j ≡ cell_of t p j = λ j m. other_row step p j (omega arith) (omega arith) m z in
          record { no_result = same 0 (omega arith) ∙ old.no_result; own_end = same 1 (omega arith) ∙ old.own_end; no_members = same 4 (omega arith) ∙ old.no_members }
      row_at_law l p k (yes z) =
          let lt = so.within.long in
          let la = store_long pa in
          let lb = store_long pb in
          subst (StateRow c) (sym z)
          (record {
            no_result = ap (λ x. get_or c (x + 0) 0) (sym er) ∙ store_other pc (row + 0) (λ e. omega arith) ∙ store_other pb (row + 0) (λ e. omega arith) ∙ store_here pa (omega arith) (omega arith);
            own_end = ap (λ x. get_or c (x + 1) 0) (sym er) ∙ store_other pc (row + 1) (λ e. omega arith) ∙ store_here pb (omega arith) (omega arith);
            no_members = ap (λ x. get_or c (x + 4) 0) (sym er) ∙ store_here pc (omega arith) (omega arith);
          })

  pub states_all : max_states ≤ q → FillsStates before t
  states_all h = record { within = so.within; rows = λ l p k. so.rows l p (omega arith) }

module _ {t : List ℕ} {g j r : ℕ} (so : StatesAmong t g j r) (x : ℕ) (ex : member_of_spec t g j ≡ x) where
  among_put : x < max_states → (r' : ℕ) → Adds r x r' → StatesAmong t g (j + 1) r'
  among_put l r' is = record { small = is.small so.small l; in_set = λ i k m. there i k m (ℕ_discrete i j); only = λ q e. whose q (is.only (omega arith) q e) }
    where
      there : (i : ℕ) → i < j + 1 → member_of_spec t g i < max_states → Dec (i ≡ j) → bit_of (member_of_spec t g i) r' ≡ 1
      there i k m (yes z) = subst (λ y. bit_of y r' ≡ 1) (sym ex ∙ ap (member_of_spec t g) (sym z)) (is.put (omega arith))
      there i k m (no z) = let y : (i ≡ j → ⊥) = z in is.grows (member_of_spec t g i) (so.in_set i (omega arith) m)

      whose : (q : ℕ) → (bit_of q r ≡ 1) ⊎ (q ≡ x) → (i : ℕ) × (i < j + 1) × (member_of_spec t g i ≡ q)
      whose q (inl e) = let (i, k, f) = so.only q e in (i, omega arith, f)
      whose q (inr e) = (j, omega arith, ex ∙ sym e)

  among_pass : max_states ≤ x → StatesAmong t g (j + 1) r
  among_pass l = record { small = so.small; in_set = λ i k m. there i k m (ℕ_discrete i j); only = λ q e. let (i, k, f) = so.only q e in (i, omega arith, f) }
    where
      there : (i : ℕ) → i < j + 1 → member_of_spec t g i < max_states → Dec (i ≡ j) → bit_of (member_of_spec t g i) r ≡ 1
      there i k m (yes z) = let e : member_of_spec t g i ≡ x = ap (member_of_spec t g) z ∙ ex in absurd (omega arith)
      there i k m (no z) = let y : (i ≡ j → ⊥) = z in so.in_set i (omega arith) m

module _ {t : List ℕ} {g j r : ℕ} (so : ArrowsAmong t g j r) where
  arrows_one : ArrowsAmong t g (j + 1) (r + 1)
  arrows_one = record { few = omega (arith, so.few); none = λ e. absurd (omega arith) }

  arrows_pass : member_of_spec t g j < max_states → ArrowsAmong t g (j + 1) r
  arrows_pass l = record { few = omega (arith, so.few); none = λ e i k. small e i k (ℕ_discrete i j) }
    where
      small : r ≡ 0 → (i : ℕ) → i < j + 1 → Dec (i ≡ j) → member_of_spec t g i < max_states
      small e i k (yes z) = subst (λ y. y < max_states) (ap (member_of_spec t g) (sym z)) l
      small e i k (no z) = let y : (i ≡ j → ⊥) = z in so.none e i (omega arith)

-- one member more, by what it is
module _ {t : List ℕ} {g j x : ℕ} {among after : Among} (is : AddsMember among x after) (ex : member_of_spec t g j ≡ x) where
  add_states : StatesAmong t g j among.states → StatesAmong t g (j + 1) after.states
  add_states so = by (dec_lt x max_states)
    where
      by : Dec (x < max_states) → StatesAmong t g (j + 1) after.states
      by (yes l) = among_put so x ex l after.states (is.state l).0
      by (no n) = let l : max_states ≤ x = omega arith in subst (StatesAmong t g (j + 1)) (sym (is.arrow l).0) (among_pass so x ex l)

  add_arrows : ArrowsAmong t g j among.arrows → ArrowsAmong t g (j + 1) after.arrows
  add_arrows so = by (dec_lt x max_states)
    where
      by : Dec (x < max_states) → ArrowsAmong t g (j + 1) after.arrows
      by (yes l) = subst (ArrowsAmong t g (j + 1)) (sym (is.state l).1) (arrows_pass so (omega arith))
      by (no n) = let l : max_states ≤ x = omega arith in subst (ArrowsAmong t g (j + 1)) (sym (is.arrow l).1) (arrows_one so)

-- the same members have the same states and arrows, and stand in the same word
module _ {t after : List ℕ} {g many many' r r' : ℕ} (same : (j : ℕ) → j < many → member_of_spec after g j ≡ member_of_spec t g j) (em : many ≡ many') (er : r ≡ r') where
  states_same : StatesAmong t g many r → StatesAmong after g many' r'
  states_same s =
      let l = s.small in
      record {
        small = omega arith;
        in_set = λ j h k. let is = same j (omega arith) in subst (λ x. bit_of x r' ≡ 1) (sym is) (subst (λ x. bit_of (member_of_spec t g j) x ≡ 1) er (s.in_set j (omega arith) (subst (λ x. x < max_states) is k)));
        only = λ q e. let (j, h, f) = s.only q (subst (λ x. bit_of q x ≡ 1) (sym er) e) in (j, omega arith, same j h ∙ f);
      }

  arrows_same : ArrowsAmong t g many r → ArrowsAmong after g many' r'
  arrows_same s = let l = s.few in record { few = omega arith; none = λ z j h. subst (λ x. x < max_states) (sym (same j (omega arith))) (s.none (omega arith) j (omega arith)) }

near_kept : {t after : List ℕ} {g many many' near near' mask mask' : ℕ} → ((j : ℕ) → j < many → member_of_spec after g j ≡ member_of_spec t g j) → many ≡ many' → near ≡ near' → mask ≡ mask' → NearAmong t g many near mask → NearAmong after g many' near' mask'
near_kept {t} {after} {g} {many} {many'} {near} {near'} {mask} {mask'} same em en ek s =
    let l = s.small in
    let f = s.fits in
    record {
      small = omega arith;
      fits = omega arith;
      word = λ n j h. ap (λ x. x / word_bits) (same j (omega arith)) ∙ s.word (λ e. n (sym en ∙ e)) j (omega arith) ∙ en;
      bit = λ n j h. subst (λ x. bit_of (x % word_bits) mask' ≡ 1) (sym (same j (omega arith))) (subst (λ x. bit_of (member_of_spec t g j % word_bits) x ≡ 1) ek (s.bit (λ e. n (sym en ∙ e)) j (omega arith)));
    }

-- The members of an arrow.
pub record MembersTo (file : List ℕ) (start many m : ℕ) (before : List ℕ) (j : ℕ) (t : List ℕ) (among : Among) : Type 0 where
  pub up_to : j ≤ many
  pub few : many ≤ max_members
  pub types : m < max_types
  pub room : Room (row_of m) before
  pub within : Within (row_at (row_of m) + members_cell) (row_at (row_of m) + row_cells) before t
  pub member : (i : ℕ) → i < j → member_in file start i < m → member_of_spec t (row_of m) i ≡ goal_of_spec before (member_in file start i)
  pub count : among.arrows ≤ j
  pub states_so : StatesAmong t (row_of m) j among.states
  pub arrows_so : ArrowsAmong t (row_of m) j among.arrows

module _ {file : List ℕ} {start many m : ℕ} {before : List ℕ} {j : ℕ} {t : List ℕ} {among : Among} (so : MembersTo file start many m before j t among) where
  pub members_more : j < many → (row w goal : ℕ) → row ≡ row_at (row_of m) → w ≡ member_in file start j → goal ≡ goal_of_spec t w → {among' : Among} → AddsMember among goal among' → MembersTo file start many m before (j + 1) (set t (row + (members_cell + j)) goal) among'
  members_more h row w goal er ew eg is =
      record {
        up_to = omega arith;
        few = so.few;
        types = so.types;
        room = so.room;
        within = within_then so.within (within_set t (row + (members_cell + j)) goal (omega arith) (omega (arith, so.few)));
        member = λ i k below. at i k below (ℕ_discrete i j);
        count = omega (arith, is.few, so.count);
        states_so = add_states is (new j refl) (states_same old refl refl so.states_so);
        arrows_so = add_arrows is (new j refl) (arrows_same old refl refl so.arrows_so);
      }
    where
      after : List ℕ
      after = set t (row + (members_cell + j)) goal

      old : (i : ℕ) → i < j → member_of_spec after (row_of m) i ≡ member_of_spec t (row_of m) i
      old i k = get_or-set_other t (row + (members_cell + j)) (row_at (row_of m) + (members_cell + i % max_members)) goal 0 (λ e. omega (arith, so.few))

      new : (i : ℕ) → i ≡ j → member_of_spec after (row_of m) i ≡ goal
      new i z =
          let here : row_at (row_of m) + (members_cell + i % max_members) ≡ row + (members_cell + j) = omega (arith, so.few) in
          ap (λ x. get_or after x 0) here ∙ get_or-set_same t (row + (members_cell + j)) goal 0 (omega (arith, so.room, so.few, so.within.long))

      at : (i : ℕ) → i < j + 1 → member_in file start i < m → Dec (i ≡ j) → member_of_spec after (row_of m) i ≡ goal_of_spec before (member_in file start i)
      at i k below (no z) = let y : (i ≡ j → ⊥) = z in old i (omega arith) ∙ so.member i (omega arith) below
      at i k below (yes z) =
          let e : w ≡ member_in file start i = ew ∙ ap (member_in file start) (sym z) in
          new i z ∙ eg ∙ so.within.outside (row_at (row_of w) + goal_cell) (λ a b. apart (omega arith) a b) ∙ ap (goal_of_spec before) e
        where
          apart : w < m → row_at (row_of m) + members_cell ≤ row_at (row_of w) + goal_cell → row_at (row_of w) + goal_cell < row_at (row_of m) + row_cells → ⊥
          apart b x y = omega (arith, so.types)

-- Where the members of an arrow stand: nothing said of it, and the word and the bits of the first j.
pub near_unsaid : {t : List ℕ} {g many : ℕ} → NearAmong t g many no_number 0
near_unsaid = record { small = omega arith; fits = omega arith; word = λ n. absurd (n refl); bit = λ n. absurd (n refl) }

-- the same of a word that may be there
pub near_or : {t : List ℕ} {g many : ℕ} {near : Near} (r : Option Near) → near ≡ unwrap_or r (record { word = no_number; mask = 0 }) → MatchOption r (Unit {0}) (λ n. NearAmong t g many n.word n.mask) → NearAmong t g many near.word near.mask
near_or None e h = rw e near_unsaid
near_or (Some n) e h = rw e h

pub record NearTo (t : List ℕ) (m many j near mask : ℕ) : Type 0 where
  pub up_to : j ≤ many
  pub few : many ≤ max_members
  pub so : NearAmong t (row_of m) j near mask

-- The bindings.
pub record BindingsTo (file index : List ℕ) (bindings : ℕ) (before : List ℕ) (b : ℕ) (t : List ℕ) : Type 0 where
  pub up_to : b ≤ bindings
  pub few : bindings ≤ max_bindings
  pub within : Within pairs_at (pairs_at + max_bindings * pair_cells) before t
  pub symbol : pairs_at + bindings * pair_cells ≤ length before → (i : ℕ) → i < b → symbol_of t i ≡ word file (get_or index (bindings_at + i) 0)
  pub own : pairs_at + bindings * pair_cells ≤ length before → (i : ℕ) → i < b → own_of t i ≡ goal_of_spec before (word file (get_or index (bindings_at + i) 0 + 2))

pub bindings_many : {file index : List ℕ} {bindings : ℕ} {before : List ℕ} → max_bindings < bindings → FillsBindings file index bindings before before
bindings_many h = record { within = within_none; symbol = λ few. absurd (omega arith); own = λ few. absurd (omega arith) }

-- The row of an arrow: its first five cells, and then where its members stand.
abbrev five : List ℕ → (row result end states arrows many : ℕ) → List ℕ
five d row result end states arrows many = set (set (set (set (set d (row + 0) result) (row + 1) end) (row + 2) states) (row + 3) arrows) (row + 4) many

module _ {file : List ℕ} {start len m : ℕ} {t : List ℕ} (types : m < max_types) (room : Room (row_of m) t) where
  pub arrow_filled : (row w result end many : ℕ) → row ≡ row_at (row_of m) → w ≡ word file start → result ≡ goal_of_spec t w → result < 65536 → end ≡ end_of t result → end < 65536 → CountsMembers len many → {d : List ℕ} {among : Among} → FillsMembers file start many m t d among
      → {near mask : ℕ} → NearAmong (five d row result end among.states among.arrows many) (row_of m) many near mask
      → FillsArrow file start len m t (set (set (set (five d row result end among.states among.arrows many) (row + near_cell) near) (row + low_cell) (mask % 65536)) (row + high_cell) (mask / 65536))
  arrow_filled row w result end many er ew eg small ee small' counts {d} {among} ms {near} {mask} ns =
      record {
        within = step;
        goal_same = past goal_cell (omega arith) (λ i l z. omega arith) ∙ ms.within.outside (row_at g + goal_cell) (λ x y. omega arith);
        says = λ low.
            let lengths = room_of in
            record {
              result = λ l. first 0 (omega arith) ∙ other 0 (omega arith) ∙ other_two 0 (omega arith) ∙ store_other pb (row_at g + 0) (λ z. omega arith) ∙ store_here pa small (omega arith) ∙ eg ∙ ap (goal_of_spec t) ew ∙ sym (old (row_of (word file start)) goal_cell (omega arith) (omega arith));
              end = λ l.
                  let lw : w < m = omega arith in
                  let lg = low w lw in
                  let er' : result ≡ goal_of_spec last (word file start) = eg ∙ ap (goal_of_spec t) ew ∙ sym (old (row_of (word file start)) goal_cell (omega arith) (omega arith)) in
                  first 1 (omega arith) ∙ other 1 (omega arith) ∙ other_two 1 (omega arith) ∙ store_here pb small' (omega arith) ∙ ee ∙ sym (old result 1 (omega arith) (omega arith)) ∙ ap (end_of last) er';
              many = λ x y. first 4 (omega arith) ∙ store_here pf (omega (arith, counts.few)) (omega arith) ∙ counts.many x y;
              member = λ x y j k l. let q = counts.many x y in kept j ∙ ms.member j (omega arith) l ∙ sym (old (row_of (member_in file start j)) goal_cell (omega arith) (omega arith));
              states = λ x y. states_same (λ j k. kept j) (counts.many x y) (sym (first 2 (omega arith) ∙ other 2 (omega arith) ∙ store_other pe (row_at g + 2) (λ z. omega arith) ∙ store_here pc ms.states_so.small (omega arith))) ms.states_so;
              arrows = λ x y. arrows_same (λ j k. kept j) (counts.many x y) (sym (first 3 (omega arith) ∙ other 3 (omega arith) ∙ store_here pe few_arrows (omega arith))) ms.arrows_so;
              near = λ x y. near_kept (λ j k. behind (members_cell + j % max_members) (λ i l z. omega arith)) (counts.many x y) (sym near_there) (sym mask_there) ns;
            };
      }
    where
      g : ℕ
      g = row_of m

      few_arrows : among.arrows < 65536
      few_arrows = omega (arith, counts.few, ms.arrows_so.few)

      low_half : mask % 65536 < 65536
      low_half = omega arith

      high_half : mask / 65536 < 65536
      high_half = omega (arith, ns.fits)

      a : List ℕ
      a = set d (row + 0) result

      b : List ℕ
      b = set a (row + 1) end

      c : List ℕ
      c = set b (row + 2) among.states

      e : List ℕ
      e = set c (row + 3) among.arrows

      f : List ℕ
      f = set e (row + 4) many

      n : List ℕ
      n = set f (row + near_cell) near

      o : List ℕ
      o = set n (row + low_cell) (mask % 65536)

      last : List ℕ
      last = set o (row + high_cell) (mask / 65536)

      pa : Put d (row_at g + 0) result a
      pa = record { is = stores d (row + 0) result small ∙ ap (λ x. stored d (x + 0) result) er }

      pb : Put a (row_at g + 1) end b
      pb = record { is = stores a (row + 1) end small' ∙ ap (λ x. stored a (x + 1) end) er }

      pc : Put b (row_at g + 2) among.states c
      pc = record { is = stores b (row + 2) among.states ms.states_so.small ∙ ap (λ x. stored b (x + 2) among.states) er }

      pe : Put c (row_at g + 3) among.arrows e
      pe = record { is = stores c (row + 3) among.arrows few_arrows ∙ ap (λ x. stored c (x + 3) among.arrows) er }

      pf : Put e (row_at g + 4) many f
      pf = record { is = stores e (row + 4) many (omega (arith, counts.few)) ∙ ap (λ x. stored e (x + 4) many) er }

      pn : Put f (row_at g + near_cell) near n
      pn = record { is = stores f (row + near_cell) near ns.small ∙ ap (λ x. stored f (x + near_cell) near) er }

      po : Put n (row_at g + low_cell) (mask % 65536) o
      po = record { is = stores n (row + low_cell) (mask % 65536) low_half ∙ ap (λ x. stored n (x + low_cell) (mask % 65536)) er }

      pl : Put o (row_at g + high_cell) (mask / 65536) last
      pl = record { is = stores o (row + high_cell) (mask / 65536) high_half ∙ ap (λ x. stored o (x + high_cell) (mask / 65536)) er }

      step : Within (row_at g) (row_at g + row_cells) t last
      step =
          within_then (within_wider (row_at g) (row_at g + row_cells) (omega arith) (omega arith) ms.within)
          (within_then (within_store pa (omega arith) (omega arith))
          (within_then (within_store pb (omega arith) (omega arith))
          (within_then (within_store pc (omega arith) (omega arith))
          (within_then (within_store pe (omega arith) (omega arith))
          (within_then (within_store pf (omega arith) (omega arith))
          (within_then (within_store pn (omega arith) (omega arith)) (within_then (within_store po (omega arith) (omega arith)) (within_store pl (omega arith) (omega arith)))))))))

      room_of : (row_at g + row_cells ≤ length d) × (row_at g + row_cells ≤ length a) × (row_at g + row_cells ≤ length b) × (row_at g + row_cells ≤ length c) × (row_at g + row_cells ≤ length e)
      room_of =
          let ld = ms.within.long in
          let la = store_long pa in
          let lb = store_long pb in
          let lc = store_long pc in
          let le = store_long pe in
          (omega arith, omega arith, omega arith, omega arith, omega arith)

      room_behind : (row_at g + row_cells ≤ length f) × (row_at g + row_cells ≤ length n) × (row_at g + row_cells ≤ length o)
      room_behind =
          let le = room_of.4 in
          let lf = store_long pf in
          let ln = store_long pn in
          let lo = store_long po in
          (omega arith, omega arith, omega arith)

      near_there : cell_of last g near_cell ≡ near
      near_there = let l = room_behind.0 in store_other pl (row_at g + near_cell) (λ z. omega arith) ∙ store_other po (row_at g + near_cell) (λ z. omega arith) ∙ store_here pn ns.small (omega arith)

      mask_there : mask_of last g ≡ mask
      mask_there =
          let (l, l', l'') = room_behind in
          let x : cell_of last g low_cell ≡ mask % 65536 = store_other pl (row_at g + low_cell) (λ z. omega arith) ∙ store_here po low_half (omega arith) in
          let y : cell_of last g high_cell ≡ mask / 65536 = store_here pl high_half (omega arith) in
          omega arith

      -- earlier rows
      old : (i k : ℕ) → i < g → k < row_cells → cell_of last i k ≡ cell_of t i k
      old i k h l = other_row step i k (omega (arith, types)) (omega (arith, types)) l (λ z. omega arith)

      -- the cells that the last three stores leave, the first five, those before the last one of these, those before the last three, those that no store changes, the members
      behind : (k : ℕ) → ((i : ℕ) → i < 3 → k ≡ near_cell + i → ⊥) → cell_of last g k ≡ cell_of f g k
      behind k ne = store_other pl (row_at g + k) (λ z. ne 2 (omega arith) (omega arith)) ∙ store_other po (row_at g + k) (λ z. ne 1 (omega arith) (omega arith)) ∙ store_other pn (row_at g + k) (λ z. ne 0 (omega arith) (omega arith))

      first : (k : ℕ) → k < 5 → cell_of last g k ≡ cell_of f g k
      first k l = behind k (λ i h z. omega arith)

      other : (k : ℕ) → k < 4 → cell_of f g k ≡ cell_of e g k
      other k l = store_other pf (row_at g + k) (λ z. omega arith)

      other_two : (k : ℕ) → k < 2 → cell_of e g k ≡ cell_of b g k
      other_two k l = store_other pe (row_at g + k) (λ z. omega arith) ∙ store_other pc (row_at g + k) (λ z. omega arith)

      past : (k : ℕ) → 5 ≤ k → ((i : ℕ) → i < 3 → k ≡ near_cell + i → ⊥) → cell_of last g k ≡ cell_of d g k
      past k l ne =
          behind k ne ∙ store_other pf (row_at g + k) (λ z. omega arith) ∙ store_other pe (row_at g + k) (λ z. omega arith) ∙ store_other pc (row_at g + k) (λ z. omega arith) ∙ store_other pb (row_at g + k) (λ z. omega arith)
          ∙ store_other pa (row_at g + k) (λ z. omega arith)

      kept : (j : ℕ) → member_of_spec last g j ≡ member_of_spec d g j
      kept j = past (members_cell + j % max_members) (omega arith) (λ i l z. omega arith)

-- The rows of all types.
pub record TypesTo (file index : List ℕ) (types : ℕ) (before : List ℕ) (m : ℕ) (t : List ℕ) : Type 0 where
  pub up_to : m ≤ types
  pub few : types ≤ max_types
  pub within : Within (row_at (row_of 0)) (row_at (row_of 0) + types * row_cells) before t
  pub says : row_at (row_of 0) + types * row_cells ≤ length before → (i : ℕ) → i < m → TypeSays file index i t

pub types_many : {file index : List ℕ} {types : ℕ} {before : List ℕ} → max_types < types → FillsTypes file index types before before
types_many h = record { within = within_none; says = λ few. absurd (omega arith) }

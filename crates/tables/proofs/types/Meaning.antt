-- What the rows of types mean: each type in turn, as its parts are earlier ones.
use Prim.Native.Nat.{ℕ, zero, suc, ◌+◌, ◌-◌, ◌*◌, ◌/◌, ◌%◌, ◌<◌, ◌≤◌}
use native.Mathlib.Omega.{arith}
use native.Mathlib.Decide.{ℕ_discrete}
use mathlib.Core.Path.{◌≡◌, sym, ap, subst, ◌∙◌}
use mathlib.Core.Logic.{◌⊎◌, inl, inr}
use mathlib.Core.List.Memᴰ
use mathlib.Core.List.{List, [], ◌∷◌, Memᴰ}
use lib.ListN.{length, get_or}
use Rattle.scheme.specs.Types.{Ty, state, arrow, Tys, members, final}
use Rattle.casefile.specs.Fields.{field, byte, word}
use Rattle.casefile.specs.Records.{Record}
use Rattle.casefile.specs.Kinds.{Kind, count}
use Rattle.casefile.proofs.Repeats.{get_d_mem}
use Rattle.casefile.proofs.TypeTable.{types_distinct}
use Rattle.index.specs.layout.Layout.{max_states, types_at}
use Rattle.marks.specs.Marks.{bit_of}
use Rattle.tables.specs.Facts.{Goal, of_state_law, of_arrow, StateRow, ArrowRow, TypesAre}
use Rattle.tables.specs.reading.Cells.{result_of, end_of, states_of_spec, member_of_spec}
use Rattle.tables.specs.types.Rows.{row_of, goal_of_spec, member_in, ArrowSays, TypeSays}
use Rattle.tables.proofs.types.Records.{Listed, type_at, payload_at, Says, says_state, says_arrow, says, type_count, start_there, length_there, field_there}

-- an element of a list has a place
pub mem_place : {A : Type 0} (l : List A) (x d : A) → Memᴰ x l → (j : ℕ) × (j < length l) × (get_or l j d ≡ x)
mem_place [] x d m = absurd (Memᴰ.not-nil m)
mem_place (y ∷ l) x d m = go (Memᴰ.cases_cons m) (λ k. mem_place l x d k)
  where
    go : (x ≡ y) ⊎ Memᴰ x l → (Memᴰ x l → (j : ℕ) × (j < length l) × (get_or l j d ≡ x)) → (j : ℕ) × (j < length (y ∷ l)) × (get_or (y ∷ l) j d ≡ x)
    go (inl e) ih = (0, omega arith, sym e)
    go (inr k) ih = let (j, h, e) = ih k in (suc j, omega arith, e)

-- Goals by their numbers.
pub goal_state : {rs : List Record} {g : ℕ} {τ : Ty} → Goal rs g τ → g < max_states → τ ≡ state g
goal_state (of_state_law q h e f) l = f ∙ ap state (sym e)
goal_state (of_arrow m a r h e f k) l = absurd (omega arith)

pub state_goal : {rs : List Record} {g q : ℕ} → Goal rs g (state q) → (g ≡ q) × (q < max_states)
state_goal {rs} {g} {q} (of_state_law p h e f) = let z : q ≡ p = cc in (omega arith, omega arith)
state_goal {rs} {g} {q} (of_arrow m a r h e f k) = let z : ◌≡◌ {A = ℕ} 0 1 = cc in absurd (omega arith)

pub goal_below : {rs : List Record} {g : ℕ} {τ : Ty} → Goal rs g τ → g < count Kind.type rs + max_states
goal_below (of_state_law q h e f) = omega arith
goal_below (of_arrow m a r h e f k) = omega arith

-- a type is entered: its goal, its final state, and its row where it is an arrow
pub record Done (rs : List Record) (t : List ℕ) (i : ℕ) : Type 0 where
  pub goal : Goal rs (goal_of_spec t i) (type_at rs i)
  pub ends : final (type_at rs i) ≡ state (end_of t (goal_of_spec t i))
  pub end_small : end_of t (goal_of_spec t i) < max_states
  pub row : (a : Tys) (r : Ty) → type_at rs i ≡ arrow a r → ArrowRow rs t (row_of i) a r

state_not_arrow : (q : ℕ) (a : Tys) (r : Ty) → state q ≡ arrow a r → ⊥
state_not_arrow q a r e = let z : ◌≡◌ {A = ℕ} 0 1 = cc in omega arith

module _ {file index : List ℕ} {n : ℕ} {rs : List Record} (w : Listed file index n rs) (t : List ℕ) (rows : (q : ℕ) → q < max_states → StateRow t q) (ts : (i : ℕ) → i < n → TypeSays file index i t) where
  module _ (i : ℕ) (h : i < n) (before : (j : ℕ) → j < i → Done rs t j) where
    start : ℕ
    start = get_or index (types_at + i) 0

    p : List ℕ
    p = payload_at rs i

    done_state : (q : ℕ) → q < max_states → p ≡ q ∷ [] → type_at rs i ≡ state q → Done rs t i
    unfolding start p final field
    done_state q small x made =
        let one : length p ≡ 1 = ap length x in
        let b : byte file (start + 0) ≡ byte p 0 = field_there w i h 1 0 (omega arith) in
        let z : start + 0 ≡ start = omega arith in
        let there : byte file start ≡ q = ap (byte file) (sym z) ∙ b ∙ ap (λ l. byte l 0) x ∙ omega arith in
        let g : goal_of_spec t i ≡ q = (ts i h).state (start_there w i h) (length_there w i h ∙ one) ∙ ap (λ y. y % max_states) there ∙ omega arith in
        let e : end_of t (goal_of_spec t i) ≡ q = ap (end_of t) g ∙ (rows q small).own_end in
        record {
          goal = of_state_law q small g made;
          ends = ap final made ∙ ap state (sym e);
          end_small = omega arith;
          row = λ a r k. absurd (state_not_arrow q a r (sym made ∙ k));
        }

    done_arrow : (a : Tys) (r : Ty) → type_at rs i ≡ arrow a r → (length p ≡ 1 → ⊥) → 2 ≤ length p → length p ≤ 34 → length (members a) ≡ (length p - 2) / 2 → word p 0 < i → type_at rs (word p 0) ≡ r
        → ((j : ℕ) → j < length (members a) → (word p (2 + 2 * j) < i) × (type_at rs (word p (2 + 2 * j)) ≡ get_or (members a) j (state 0))) → Done rs t i
    unfolding start p final
    done_arrow a r made ne two short many result-below result-is member_is =
        record {
          goal = of_arrow i a r (let c = w.there.counted in omega arith) goal made made;
          ends = ap final made ∙ row.ends ∙ ap (λ g. state (end_of t g)) (sym goal);
          end_small = subst (λ g. end_of t g < max_states) (sym goal) row.end_small;
          row = λ b s e. let z : arrow a r ≡ arrow b s = sym made ∙ e in let za : a ≡ b = cc in let zr : r ≡ s = cc in subst (λ y. ArrowRow rs t (row_of i) y s) za (subst (ArrowRow rs t (row_of i) a) zr row);
        }
      where
        both : (goal_of_spec t i ≡ row_of i) × ArrowSays file start (word file (start - 4)) i t
        both = (ts i h).arrow (start_there w i h) (λ e. ne (sym (length_there w i h) ∙ e))

        goal : goal_of_spec t i ≡ row_of i
        goal = both.0

        s : ArrowSays file start (length p) i t
        s = subst (λ l. ArrowSays file start l i t) (length_there w i h) both.1

        first : word file start ≡ word p 0
        first = let z : start + 0 ≡ start = omega arith in ap (word file) (sym z) ∙ field_there w i h 2 0 (omega arith)

        number : (j : ℕ) → j < length (members a) → member_in file start j ≡ word p (2 + 2 * j)
        number j k = let z : start + 2 + 2 * j ≡ start + (2 + 2 * j) = omega arith in ap (word file) z ∙ field_there w i h 2 (2 + 2 * j) (omega arith)

        earlier : Done rs t (word p 0)
        earlier = before (word p 0) result-below

        result : result_of t (row_of i) ≡ goal_of_spec t (word p 0)
        result = s.result (omega (arith, first)) ∙ ap (goal_of_spec t) first

        end : end_of t (row_of i) ≡ end_of t (goal_of_spec t (word p 0))
        end = s.end (omega (arith, first)) ∙ ap (λ x. end_of t (goal_of_spec t x)) first

        member : (j : ℕ) → j < length (members a) → Goal rs (member_of_spec t (row_of i) j) (get_or (members a) j (state 0))
        member j k =
            let (below, is) = member_is j k in
            let e : member_of_spec t (row_of i) j ≡ goal_of_spec t (word p (2 + 2 * j)) = s.member two short j (omega arith) (omega (arith, number j k)) ∙ ap (goal_of_spec t) (number j k) in
            subst (Goal rs (member_of_spec t (row_of i) j)) is (subst (λ g. Goal rs g (type_at rs (word p (2 + 2 * j)))) (sym e) (before (word p (2 + 2 * j)) below).goal)

        row : ArrowRow rs t (row_of i) a r
        row =
            record {
              result = subst (Goal rs (result_of t (row_of i))) result-is (subst (λ g. Goal rs g (type_at rs (word p 0))) (sym result) earlier.goal);
              ends = ap final (sym result-is) ∙ earlier.ends ∙ ap state (sym end);
              end_small = subst (λ e. e < max_states) (sym end) earlier.end_small;
              many = s.many two short ∙ sym many;
              few = omega arith;
              member = member;
              states_in = λ q l e.
                  let (j, k, f) = (s.states two short).only q e in
                  let k' : j < length (members a) = omega arith in
                  let is : get_or (members a) j (state 0) ≡ state q = goal_state (member j k') (omega arith) ∙ ap state f in
                  subst (λ τ. Memᴰ τ (members a)) is (get_d_mem (members a) j (state 0) k');
              states_out = λ q m.
                  let (j, k, f) = mem_place (members a) (state q) (state 0) m in
                  let (e, l) = state_goal (subst (Goal rs (member_of_spec t (row_of i) j)) f (member j k)) in
                  subst (λ x. bit_of x (states_of_spec t (row_of i)) ≡ 1) e ((s.states two short).in_set j (omega arith) (omega arith));
              pure = λ z b σ m.
                  let (j, k, f) = mem_place (members a) (arrow b σ) (state 0) m in
                  let l = (s.arrows two short).none z j (omega arith) in
                  state_not_arrow (member_of_spec t (row_of i) j) b σ (sym (goal_state (member j k) l) ∙ f);
              near = λ n j k. ((s.near two short).word n j (omega arith), (s.near two short).bit n j (omega arith));
            }

    done_next : Done rs t i
    unfolding start p
    done_next = by (says w i h)
      where
        by : Says rs i → Done rs t i
        by (says_state q small x made) = done_state q small x made
        by (says_arrow a r made ne two short many below is member_is) = done_arrow a r made ne two short many below is member_is

  done_below : (k : ℕ) → k ≤ n → (i : ℕ) → i < k → Done rs t i
  done_below zero l i h = absurd (omega arith)
  done_below (suc k) l i h = go (ℕ_discrete i k) (λ j m. done_below k (omega arith) j m)
    where
      go : Dec (i ≡ k) → ((j : ℕ) → j < k → Done rs t j) → Done rs t i
      go (yes e) ih = subst (Done rs t) (sym e) (done_next k (omega arith) ih)
      go (no e) ih = let y : (i ≡ k → ⊥) = e in ih i (omega arith)

  pub done : (i : ℕ) → i < n → Done rs t i
  done i h = done_below n (omega arith) i h

  one_number : (g h : ℕ) (τ : Ty) → Goal rs g τ → Goal rs h τ → g ≡ h
  one_number g h τ (of_state_law p a e f) (of_state_law q b x y) = let z : state p ≡ state q = sym f ∙ y in let u : p ≡ q = cc in omega arith
  one_number g h τ (of_state_law p a e f) (of_arrow m b r l x y u) = absurd (state_not_arrow p b r (sym f ∙ u))
  one_number g h τ (of_arrow m a r l e f u) (of_state_law q b x y) = absurd (state_not_arrow q a r (sym y ∙ u))
  one_number g h τ (of_arrow m a r l e f u) (of_arrow m' b s l' e' f' u') =
      let c = type_count w in
      let d = w.there.counted in
      let z = types_distinct w.passed w.bytes m m' (omega arith) (omega arith) (f ∙ sym u ∙ u' ∙ sym f') in
      omega arith

  -- THE ROWS OF TYPES
  pub types_are : TypesAre rs t
  types_are =
      record {
        few_types_law = let d = w.there.counted in let f = w.few in omega arith;
        state_row = rows;
        arrow_row = arrow_row;
        one_number = one_number;
      }
    where
      arrow_row : (g : ℕ) (a : Tys) (r : Ty) → Goal rs g (arrow a r) → ArrowRow rs t g a r
      arrow_row g a r (of_state_law q l e f) = absurd (state_not_arrow q a r (sym f))
      arrow_row g a r (of_arrow m b s l e f u) = let d = w.there.counted in subst (λ x. ArrowRow rs t x a r) (sym e) ((done m (omega arith)).row a r (f ∙ sym u))

-- What the rows of the table mean: the targets of the definitions.
use Prim.Native.Nat.{ℕ, zero, suc, ◌<◌, ◌≤◌}
use native.Mathlib.Nat.{add-zero}
use native.Mathlib.Omega.{arith}
use mathlib.Core.Path.{◌≡◌, refl, sym, ap, ap₂, subst, ◌∙◌}
use mathlib.Core.Bool.{Bool, true, false, ◌&&◌, ◌||◌}
use mathlib.Core.List.{List, [], ◌∷◌, ◌++◌, map, map-append}
use mathlib.Core.Option.{none, some}
use borrow.Author.Tests.{eqb-true, ne_eqb, leb-false, ltb-false}
use lib.Dec.{eqb, leb, ltb}
use lib.ListN.{length, get_or, take, drop, length-map, length-append}
use Rattle.scheme.specs.Lists.{choose◌then◌else◌, any, select, last_or}
use Rattle.scheme.proofs.Lists.{or_false, select_append, last_more}
use Rattle.casefile.specs.Fields.{field, byte}
use Rattle.casefile.specs.Records.{Record}
use Rattle.casefile.specs.Kinds.{Kind, number, of_kind, payloads}
use Rattle.casefile.specs.Tables.{arities_of, state_count_spec, transition_of, transitions_of, targets_at}
use Rattle.casefile.specs.Refusals.{wrong_targets_spec, out_of_range}
use Rattle.casefile.proofs.Passed.{entry, passed_tested, payloads_more, payloads_other}
use Rattle.casefile.specs.Promises.{Passed, nothing, also}
use Rattle.transitions.specs.table.Moves.{row_at, four_at, row_for, targets_in, Sofar, Holds}
use Rattle.transitions.proofs.table.Filling.{six}
use Rattle.index.specs.layout.Layout.{max_constructors, max_states}

-- "how many (1)" states: at most 16
pub states_few : {rs : List Record} → Passed rs → state_count_spec rs ≤ max_states
unfolding state_count_spec last_or out_of_range number payloads of_kind select
states_few nothing = let none_yet : state_count_spec [] ≡ 0 = refl in omega arith
states_few (also {rs} r ok e) = go (eqb r.kind 5) refl (states_few ok)
  where
    first : List ℕ → ℕ
    first p = byte p 0

    go : (b : Bool) → eqb r.kind 5 ≡ b → state_count_spec rs ≤ max_states → state_count_spec (rs ++ (r ∷ [])) ≤ max_states
    go true f before =
        let here : state_count_spec (rs ++ (r ∷ [])) ≡ byte r.payload 0 = ap (λ l. last_or 0 (map first l)) (payloads_more Kind.states rs r f) ∙ ap (last_or 0) (map-append first (payloads Kind.states rs) (r.payload ∷ [])) ∙ last_more 0 (map first (payloads Kind.states rs)) (byte r.payload 0) in
        let small = ltb-false max_states (byte r.payload 0) (or_false (eqb (byte r.payload 0) 0) (ltb max_states (byte r.payload 0)) (passed_tested rs r Kind.states e f).ranges).1 in
        omega arith
    go false f before = subst (λ l. last_or 0 (map first l) ≤ max_states) (sym (payloads_other Kind.states rs r f)) before

-- six bytes: two, and four targets
six_four : (p : List ℕ) → length p ≡ 6 → drop 2 p ≡ four_at p 0
unfolding field
six_four (a ∷ b ∷ c ∷ d ∷ e ∷ f ∷ []) h = simp (add-zero)
six_four [] h = absurd (omega arith)
six_four (a ∷ []) h = absurd (omega arith)
six_four (a ∷ b ∷ []) h = absurd (omega arith)
six_four (a ∷ b ∷ c ∷ []) h = absurd (omega arith)
six_four (a ∷ b ∷ c ∷ d ∷ []) h = absurd (omega arith)
six_four (a ∷ b ∷ c ∷ d ∷ e ∷ []) h = absurd (omega arith)
six_four (a ∷ b ∷ c ∷ d ∷ e ∷ f ∷ g ∷ p) h = absurd (omega arith)

-- the first target is a state or 0
first_small : (qs n x : ℕ) (xs : List ℕ) → qs ≤ max_states → wrong_targets_spec qs n (x ∷ xs) ≡ false → x ≤ max_states
unfolding wrong_targets_spec any
first_small qs zero x xs h e = let a = ltb-false 0 x (or_false (ltb 0 x) (any (λ (t : ℕ). ltb 0 t) xs) e).0 in omega arith
first_small qs (suc n) x xs h e =
    let (a, b) = or_false (leb qs x || any (λ (t : ℕ). leb qs t) (take n xs)) (any (λ (t : ℕ). ltb 0 t) (drop n xs)) e in
    let c = leb-false qs x (or_false (leb qs x) (any (λ (t : ℕ). leb qs t) (take n xs)) a).0 in
    omega arith

target_small : {rs : List Record} → Passed rs → (i : ℕ) → i < length (payloads Kind.transition rs) → byte (get_or (payloads Kind.transition rs) i []) 2 ≤ max_states
unfolding out_of_range
target_small {rs} ok i h =
    let e = entry ok Kind.transition i h in
    let p = e.payload in
    let long : length p ≡ 6 = ap length (sym e.here) ∙ six ok i h in
    let qs = state_count_spec e.earlier in
    let ns = arities_of e.earlier in
    let ranges = (or_false (leb qs (byte p 0) || leb (length ns) (byte p 1)) (wrong_targets_spec qs (get_or ns (byte p 1) 0) (drop 2 p)) e.passed_tests.ranges).1 in
    subst (λ l. byte l 2 ≤ max_states) (sym e.here) (first_small qs (get_or ns (byte p 1) 0) (byte p 2) (byte p 3 ∷ byte p 4 ∷ byte p 5 ∷ []) (states_few e.passed) (subst (λ l. wrong_targets_spec qs (get_or ns (byte p 1) 0) l ≡ false) (six_four p long) ranges))

module _ (arities : List ℕ) (q c : ℕ) where
  -- rows of six bytes with a small first target
  row_targets : (ps : List (List ℕ)) → ((i : ℕ) → i < length ps → (length (get_or ps i []) ≡ 6) × (byte (get_or ps i []) 2 ≤ max_states)) → targets_in (get_or arities c 0) (row_for ps q c) ≡ targets_at (map (transition_of arities) ps) q c
  unfolding row_for targets_in targets_at transition_of
  row_targets [] h = refl
  row_targets (p ∷ ps) h = go (eqb (byte p 0) q) (eqb (byte p 1) c) refl (row_targets ps (λ i l. h (suc i) (omega arith)))
    where
      go : (a b : Bool) → eqb (byte p 1) c ≡ b → targets_in (get_or arities c 0) (row_for ps q c) ≡ targets_at (map (transition_of arities) ps) q c → targets_in (get_or arities c 0) (choose a && b then four_at p 0 else row_for ps q c) ≡ (choose a && b then some (take (get_or arities (byte p 1) 0) (drop 2 p)) else targets_at (map (transition_of arities) ps) q c)
      go true true e others =
          let (long, small) = h 0 (omega arith) in
          rw (ne_eqb (byte p 2) 255 (λ z. omega arith)) (ap₂ (λ n l. some (take n l)) (ap (λ m. get_or arities m 0) (sym (eqb-true (byte p 1) c e))) (sym (six_four p long)))
      go true false e others = others
      go false b e others = others

-- the rows of all transitions are the targets of the definitions
pub row_means : {rs : List Record} → Passed rs → (q c : ℕ) → targets_in (get_or (arities_of rs) c 0) (row_for (payloads Kind.transition rs) q c) ≡ targets_at (transitions_of rs) q c
unfolding transitions_of
row_means {rs} ok q c = row_targets (arities_of rs) q c (payloads Kind.transition rs) (λ i l. (six ok i l, target_small ok i l))

-- a row has four places
row_four : (ps : List (List ℕ)) (q c : ℕ) → length (row_for ps q c) ≡ 4
unfolding row_for
row_four [] q c = refl
row_four (p ∷ ps) q c = go (eqb (byte p 0) q && eqb (byte p 1) c) (row_four ps q c)
  where
    go : (b : Bool) → length (row_for ps q c) ≡ 4 → length (choose b then four_at p 0 else row_for ps q c) ≡ 4
    go true others = refl
    go false others = others

-- the promise of the table
pub all_rows : (file index : List ℕ) (n : ℕ) (t : List (List (List ℕ))) (k : ℕ) → Sofar file index n t k → k ≤ 0 → Holds file index n t
all_rows file index n t k so h rs ok ix few =
    let none_left : k ≡ 0 = omega arith in
    let row : (q c : ℕ) → q < max_states → c < max_constructors → row_at t q c ≡ row_for (payloads Kind.transition rs) q c = λ q c hq hc. so.rows rs ok ix q c hq hc ∙ ap (λ m. row_for (drop m (payloads Kind.transition rs)) q c) none_left in
    record {
      targets = λ q c hq hc. ap (targets_in (get_or (arities_of rs) c 0)) (row q c hq hc) ∙ row_means ok q c;
      four = λ q c hq hc. ap length (row q c hq hc) ∙ row_four (payloads Kind.transition rs) q c;
    }

-- the constructors of the records before are among all
fewer_arities : (a b : List Record) → length (arities_of a) ≤ length (arities_of (a ++ b))
unfolding arities_of payloads of_kind
fewer_arities a b =
    let test : Record → Bool = λ (r : Record). eqb r.kind (number Kind.constructor) in
    let pay : Record → List ℕ = λ (r : Record). r.payload in
    let fst : List ℕ → ℕ = λ (p : List ℕ). byte p 0 in
    let l₁ = length-map (map pay (select test a)) fst ∙ length-map (select test a) pay in
    let l₂ = length-map (map pay (select test (a ++ b))) fst ∙ length-map (select test (a ++ b)) pay in
    let l₃ = ap length (select_append test a b) ∙ length-append (select test a) (select test b) in
    omega arith

-- the state and the constructor of a transition
transition_known : {rs : List Record} → Passed rs → (i : ℕ) → i < length (payloads Kind.transition rs) → (byte (get_or (payloads Kind.transition rs) i []) 0 < max_states) × (byte (get_or (payloads Kind.transition rs) i []) 1 < length (arities_of rs))
unfolding out_of_range
transition_known {rs} ok i h =
    let e = entry ok Kind.transition i h in
    let p = e.payload in
    let qs = state_count_spec e.earlier in
    let ns = arities_of e.earlier in
    let known = (or_false (leb qs (byte p 0) || leb (length ns) (byte p 1)) (wrong_targets_spec qs (get_or ns (byte p 1) 0) (drop 2 p)) e.passed_tests.ranges).0 in
    let state = leb-false qs (byte p 0) (or_false (leb qs (byte p 0)) (leb (length ns) (byte p 1)) known).0 in
    let constructor = leb-false (length ns) (byte p 1) (or_false (leb qs (byte p 0)) (leb (length ns) (byte p 1)) known).1 in
    let few = states_few e.passed in
    let fewer = subst (λ l. length ns ≤ length (arities_of l)) e.together (fewer_arities e.earlier e.later) in
    subst (λ l. (byte l 0 < max_states) × (byte l 1 < length (arities_of rs))) (sym e.here) (omega arith, omega arith)

-- no transition names a state or a constructor that is not there
unnamed : (arities : List ℕ) (ps : List (List ℕ)) (q c : ℕ) → ((i : ℕ) → i < length ps → (byte (get_or ps i []) 0 ≡ q) × (byte (get_or ps i []) 1 ≡ c) → ⊥) → targets_at (map (transition_of arities) ps) q c ≡ none
unfolding targets_at transition_of
unnamed arities [] q c h = refl
unnamed arities (p ∷ ps) q c h = go (eqb (byte p 0) q) (eqb (byte p 1) c) refl refl (unnamed arities ps q c (λ i l. h (suc i) (omega arith)))
  where
    go : (a b : Bool) → eqb (byte p 0) q ≡ a → eqb (byte p 1) c ≡ b → targets_at (map (transition_of arities) ps) q c ≡ none → (choose a && b then some (take (get_or arities (byte p 1) 0) (drop 2 p)) else targets_at (map (transition_of arities) ps) q c) ≡ none
    go true true e f others = absurd (h 0 (omega arith) (eqb-true (byte p 0) q e, eqb-true (byte p 1) c f))
    go true false e f others = others
    go false b e f others = others

module _ {rs : List Record} (ok : Passed rs) (q c : ℕ) where
  pub no_state : max_states ≤ q → targets_at (transitions_of rs) q c ≡ none
  unfolding transitions_of
  no_state h = unnamed (arities_of rs) (payloads Kind.transition rs) q c (λ i l (x, y). let k = (transition_known ok i l).0 in omega arith)

  pub no_constructor : length (arities_of rs) ≤ c → targets_at (transitions_of rs) q c ≡ none
  unfolding transitions_of
  no_constructor h = unnamed (arities_of rs) (payloads Kind.transition rs) q c (λ i l (x, y). let k = (transition_known ok i l).1 in omega arith)

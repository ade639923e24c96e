-- The targets of a transition that passed: as many as the constructor has arguments, each a state below 16; its state is
-- one of the file's. The tests look at the records before the transition, and there is one states record at most, so
-- the number of states before it is that of all records.
use Prim.Native.Nat.{ℕ, suc, ◌+◌, ◌-◌, ◌<◌, ◌≤◌}
use native.Mathlib.Omega.{arith}
use native.Mathlib.Decide.{dec_lt}
use mathlib.Core.Path.{◌≡◌, refl, sym, ap, subst, ◌∙◌}
use mathlib.Core.Bool.{Bool, true, false, ◌&&◌, ◌||◌}
use mathlib.Core.List.{List, [], ◌∷◌, ◌++◌, map, append-nil}
use mathlib.Core.Option.{some}
use borrow.Author.Tests.{eqb-true, leb-false, ltb-false}
use lib.Dec.{eqb, leb, ltb}
use lib.ListN.{length, get_or, take, drop, length-append, length-take, length-drop, get_or-eq_default}
use lib.Seq.{length-take-le, get_or-take, get_or-drop}
use Rattle.scheme.specs.Lists.{choose◌then◌else◌, any, last_or}
use Rattle.scheme.proofs.Lists.{or_false, any_at}
use Rattle.casefile.specs.Fields.{byte}
use Rattle.casefile.specs.Records.{Record}
use Rattle.casefile.specs.Kinds.{Kind, payloads}
use Rattle.casefile.specs.Tables.{arities_of, state_count_spec, transition_of, transitions_of, targets_at}
use Rattle.casefile.specs.Refusals.{wrong_targets_spec, out_of_range}
use Rattle.casefile.proofs.Passed.{entry}
use Rattle.casefile.specs.Promises.{Passed}
use Rattle.casefile.proofs.Payloads.{payloads_append, arity_small}
use Rattle.transitions.proofs.table.Filling.{six}
use Rattle.transitions.proofs.table.Meaning.{states_few}
use Rattle.index.specs.layout.Layout.{max_states}

-- where there is one states record at most, and records before some have states, those are the states of all
states_all : (a b : List Record) → length (payloads Kind.states (a ++ b)) ≤ 1 → 0 < state_count_spec a → state_count_spec (a ++ b) ≡ state_count_spec a
unfolding state_count_spec last_or
states_all a b h = go (payloads Kind.states a) (payloads Kind.states b) (payloads_append Kind.states a b) refl
  where
    first : List ℕ → ℕ
    first p = byte p 0

    go : (xs ys : List (List ℕ)) → payloads Kind.states (a ++ b) ≡ xs ++ ys → payloads Kind.states a ≡ xs → 0 < last_or 0 (map first (payloads Kind.states a)) → last_or 0 (map first (payloads Kind.states (a ++ b))) ≡ last_or 0 (map first (payloads Kind.states a))
    go [] ys e f l = absurd (let none_yet = ap (λ z. last_or 0 (map first z)) f in omega arith)
    go (x ∷ xs) [] e f l = ap (λ z. last_or 0 (map first z)) (e ∙ append-nil (x ∷ xs) ∙ sym f)
    go (x ∷ xs) (y ∷ ys) e f l = absurd (let many = ap length e ∙ length-append (x ∷ xs) (y ∷ ys) in omega arith)

-- a target is a state, or it is 0
targets_small : (states n : ℕ) (targets : List ℕ) → states ≤ max_states → wrong_targets_spec states n targets ≡ false → (i : ℕ) → get_or targets i 0 < max_states
unfolding wrong_targets_spec
targets_small states n targets few e i = go (dec_lt i (length targets)) (dec_lt i n)
  where
    go : Dec (i < length targets) → Dec (i < n) → get_or targets i 0 < max_states
    go (no h) d = let past = get_or-eq_default targets 0 {n = i} (omega arith) in omega arith
    go (yes h) (yes k) =
        let long : i < length (take n targets) = omega (arith, length-take n targets) in
        let state = leb-false states (get_or (take n targets) i 0) (any_at (λ (t : ℕ). leb states t) (take n targets) i 0 (or_false (any (λ (t : ℕ). leb states t) (take n targets)) (any (λ (t : ℕ). ltb 0 t) (drop n targets)) e).0 long) in
        let same = get_or-take n targets i 0 k in
        omega arith
    go (yes h) (no k) =
        let long : i - n < length (drop n targets) = omega (arith, length-drop n targets) in
        let zeros = ltb-false 0 (get_or (drop n targets) (i - n) 0) (any_at (λ (t : ℕ). ltb 0 t) (drop n targets) (i - n) 0 (or_false (any (λ (t : ℕ). leb states t) (take n targets)) (any (λ (t : ℕ). ltb 0 t) (drop n targets)) e).1 long) in
        let apart : n + (i - n) ≡ i = omega arith in
        let same : get_or (drop n targets) (i - n) 0 ≡ get_or targets i 0 = get_or-drop n targets (i - n) 0 ∙ ap (λ j. get_or targets j 0) apart in
        omega arith

-- the transition that the targets are of
record Of (arities : List ℕ) (ps : List (List ℕ)) (q c : ℕ) (qs : List ℕ) : Type 0 where
  number : ℕ
  inside : number < length ps
  from : byte (get_or ps number []) 0 ≡ q
  over : byte (get_or ps number []) 1 ≡ c
  are : qs ≡ take (get_or arities c 0) (drop 2 (get_or ps number []))

of : (arities : List ℕ) (ps : List (List ℕ)) (q c : ℕ) (qs : List ℕ) → targets_at (map (transition_of arities) ps) q c ≡ some qs → Of arities ps q c qs
unfolding targets_at transition_of
of arities [] q c qs e = absurd (let z : ◌≡◌ {A = ℕ} 0 1 = cc in omega arith)
of arities (p ∷ ps) q c qs e = go (eqb (byte p 0) q) (eqb (byte p 1) c) refl refl (of arities ps q c qs) e
  where
    later : Of arities ps q c qs → Of arities (p ∷ ps) q c qs
    later o = record { number = suc o.number; inside = omega (arith, o.inside); from = o.from; over = o.over; are = o.are }

    go : (a b : Bool) → eqb (byte p 0) q ≡ a → eqb (byte p 1) c ≡ b → (targets_at (map (transition_of arities) ps) q c ≡ some qs → Of arities ps q c qs)
        → (choose a && b then some (take (get_or arities (byte p 1) 0) (drop 2 p)) else targets_at (map (transition_of arities) ps) q c) ≡ some qs → Of arities (p ∷ ps) q c qs
    go true true f g others e =
        let over = eqb-true (byte p 1) c g in
        let here : qs ≡ take (get_or arities (byte p 1) 0) (drop 2 p) = cc in
        record { number = 0; inside = omega arith; from = eqb-true (byte p 0) q f; over = over; are = here ∙ ap (λ m. take (get_or arities m 0) (drop 2 p)) over }
    go true false f g others e = later (others e)
    go false b f g others e = later (others e)

pub targets_some : {rs : List Record} → Passed rs → length (payloads Kind.states rs) ≤ 1 → (q c : ℕ) (qs : List ℕ) → targets_at (transitions_of rs) q c ≡ some qs
    → (q < state_count_spec rs) × (length qs ≡ get_or (arities_of rs) c 0) × ((i : ℕ) → get_or qs i 0 < max_states)
unfolding transitions_of out_of_range
targets_some {rs} ok one q c qs found =
    let o = of (arities_of rs) (payloads Kind.transition rs) q c qs found in
    let e = entry ok Kind.transition o.number o.inside in
    let p = e.payload in
    let states = state_count_spec e.earlier in
    let ns = arities_of e.earlier in
    let (known, targets) = or_false (leb states (byte p 0) || leb (length ns) (byte p 1)) (wrong_targets_spec states (get_or ns (byte p 1) 0) (drop 2 p)) e.passed_tests.ranges in
    let state = leb-false states (byte p 0) (or_false (leb states (byte p 0)) (leb (length ns) (byte p 1)) known).0 in
    let all = states_all e.earlier e.later (subst (λ l. length (payloads Kind.states l) ≤ 1) (sym e.together) one) (omega arith) in
    let same : state_count_spec rs ≡ states = ap state_count_spec (sym e.together) ∙ all in
    let is_q : byte p 0 ≡ q = ap (λ l. byte l 0) (sym e.here) ∙ o.from in
    let are : qs ≡ take (get_or (arities_of rs) c 0) (drop 2 p) = o.are ∙ ap (λ l. take (get_or (arities_of rs) c 0) (drop 2 l)) e.here in
    let long : length p ≡ 6 = ap length (sym e.here) ∙ six ok o.number o.inside in
    let four : length (drop 2 p) ≡ 4 = length-drop 2 p ∙ ap (λ m. m - 2) long in
    let arity = arity_small ok c in
    let small = targets_small states (get_or ns (byte p 1) 0) (drop 2 p) (states_few e.passed) targets in
    (omega arith, ap length are ∙ length-take-le (get_or (arities_of rs) c 0) (drop 2 p) (omega arith), λ i. subst (λ l. get_or l i 0 < max_states) (sym are) (taken (get_or (arities_of rs) c 0) (drop 2 p) small i))
  where
    -- what holds of each, holds of the first n
    taken : (n : ℕ) (l : List ℕ) → ((i : ℕ) → get_or l i 0 < max_states) → (i : ℕ) → get_or (take n l) i 0 < max_states
    taken n l h i = by (dec_lt i n)
      where
        by : Dec (i < n) → get_or (take n l) i 0 < max_states
        by (yes k) = subst (λ x. x < max_states) (sym (get_or-take n l i 0 k)) (h i)
        by (no k) = let past = get_or-eq_default (take n l) 0 {n = i} (omega (arith, length-take n l)) in omega arith

-- The transition of a constructor whose type with arrows off is a goal: it is the one at the state in which the goal ends.
use Prim.Native.Nat.{ℕ, zero, suc, ◌+◌, ◌-◌, ◌*◌, ◌/◌, ◌%◌, ◌^◌, ◌<◌, ◌≤◌, min}
use native.Mathlib.Omega.{arith}
use native.Mathlib.Decide.{dec_lt}
use native.Mathlib.Nat.{not-suc-le-zero, div-div-eq-div-mul, le_of_suc-le-suc}
use mathlib.Core.Path.{◌≡◌, refl, sym, ap, subst, ◌∙◌}
use mathlib.Core.Logic.{◌⊎◌, inl, inr}
use mathlib.Core.Bool.{Bool, true, false}
use mathlib.Core.List.{List, [], ◌∷◌}
use mathlib.Core.Option.{some}
use lib.Bits.{bit_and}
use Rattle.std.specs.Prelude.{Some, None}
use Rattle.std.proofs.lemmas.Option.{none-some}
use lib.ListN.{length, get_or, drop, length-drop}
use lib.Pow.{pow-add}
use lib.Seq.{get_or-drop}
use Rattle.scheme.specs.Types.{Ty, state, arrow, takes, final, off}
use Rattle.scheme.proofs.Safety.{final_takes}
use Rattle.casefile.specs.Records.{Record}
use Rattle.casefile.specs.Tables.{transitions_of, targets_at}
use Rattle.index.specs.layout.Layout.{max_states, max_constructors}
use Rattle.marks.specs.Marks.{bit_of}
use Rattle.marks.proofs.Bits.{bit_two, bit_small, zero_bit, high_bit, and_bit, minus_bit}
use Rattle.tables.specs.reading.Cells.{end_of, present_of_spec, arity_of_spec, targets_of_spec}
use Rattle.tables.specs.declared.reading.Node.{Node}
use Rattle.tables.specs.Facts.{Goal, of_state_law, TypesAre, TransitionIs, AutomatonIs}
use Rattle.term_check.specs.Worlds.{World, Targets}
use Rattle.term_check.specs.heads.Heads.{Matches, IsTargets, Leaf}
use Rattle.term_check.proofs.Goals.{goal_type, state_below}
use Rattle.term_check.proofs.heads.Matching.{match_state, match_short}

-- the targets behind so many
power_of : (k : ℕ) → k ≤ 4 → 2 ^ (4 * k) ≡ 16 ^ k
power_of zero h = refl
power_of (suc zero) h = refl
power_of (suc (suc zero)) h = refl
power_of (suc (suc (suc zero))) h = refl
power_of (suc (suc (suc (suc zero)))) h = refl
power_of (suc (suc (suc (suc (suc k))))) h = absurd (omega arith)

pub behind_so : (n k m : ℕ) → m ≡ min k 4 → k ≤ 4 → n / 2 ^ (4 * m) ≡ n / 16 ^ k
behind_so n k m e h = ap (λ i. n / 2 ^ (4 * i)) (let f : m ≡ k = omega arith in f) ∙ ap (λ i. n / i) (power_of k h)

-- the type of a constructor with arrows off, in and out
takes_off : (k : ℕ) (qs : List ℕ) (q : ℕ) → k ≤ length qs → off k (takes qs q) ≡ some (takes (drop k qs) q)
unfolding takes off
takes_off zero qs q h = refl
takes_off (suc k) [] q h = absurd (not-suc-le-zero h)
takes_off (suc k) (p ∷ ps) q h = takes_off k ps q (le_of_suc-le-suc h)

off_takes : (k : ℕ) (qs : List ℕ) (q : ℕ) (σ : Ty) → off k (takes qs q) ≡ some σ → (k ≤ length qs) × (takes (drop k qs) q ≡ σ)
unfolding takes off
off_takes zero qs q σ e = (omega arith, cc)
off_takes (suc k) [] q σ e = let z : ◌≡◌ {A = ℕ} 0 1 = cc in absurd (omega arith)
off_takes (suc k) (p ∷ ps) q σ e = let (h, f) = off_takes k ps q σ e in (omega arith, f)

-- the state in which a goal ends
goal_end : {rs : List Record} {t : List ℕ} → TypesAre rs t → (g : ℕ) (σ : Ty) → Goal rs g σ → (end_of t g < max_states) × (final σ ≡ state (end_of t g))
unfolding final
goal_end {t = t} are g (state q) x =
    let (i, h) = state_below q x in
    let e = ap (end_of t) i ∙ (are.state_row q h).own_end in
    (omega arith, ap state (sym e))
goal_end are g (arrow a r) x = let row = are.arrow_row g a r x in (row.end_small, row.ends)

-- a goal ends in a state, by the table of any file
abbrev EndsAt : List ℕ → ℕ → ℕ → Type 0
EndsAt t goal end = (rs : List Record) → TypesAre rs t → end ≡ end_of t goal

-- a transition whose type with n arrows off is a goal
record Built (rs : List Record) (t : List ℕ) (c n goal : ℕ) (σ : Ty) (q : ℕ) (qs : List ℕ) : Type 0 where
  con_small : c < max_constructors
  at_end : end_of t goal % 16 ≡ q
  bit : bit_of q (present_of_spec t c) ≡ 1
  row : TransitionIs rs t c q qs
  long : n ≤ length qs
  rest : σ ≡ takes (drop n qs) q

module _ {rs : List Record} {t : List ℕ} (are : TypesAre rs t) (moves : AutomatonIs rs t) (c n goal : ℕ) (σ : Ty) (x : Goal rs goal σ) where
  row_of : (q : ℕ) (qs : List ℕ) → q < max_states → c < max_constructors → targets_at (transitions_of rs) q c ≡ some qs → (bit_of q (present_of_spec t c) ≡ 1) × TransitionIs rs t c q qs
  row_of q qs hq hc e = go (bit_two q (present_of_spec t c))
    where
      go : (bit_of q (present_of_spec t c) ≡ 0) ⊎ (bit_of q (present_of_spec t c) ≡ 1) → (bit_of q (present_of_spec t c) ≡ 1) × TransitionIs rs t c q qs
      go (inl z) =
          let a = moves.absent q c hq hc (λ o. omega arith) in
          let f : ◌≡◌ {A = ℕ} 0 1 = cc in
          absurd (omega arith)
      go (inr o) =
          let (ps, is) = moves.present q c hq hc o in
          let f = is.there in
          (o, subst (TransitionIs rs t c q) (let same : ps ≡ qs = cc in same) is)

  built : (q : ℕ) (qs : List ℕ) → targets_at (transitions_of rs) q c ≡ some qs → off n (takes qs q) ≡ some σ → Built rs t c n goal σ q qs
  built q qs e o =
      let (most, hq, hc) = moves.within q c qs e in
      let (b, is) = row_of q qs hq hc e in
      let (long, rest) = off_takes n qs q σ o in
      let (small, ends) = goal_end are goal σ x in
      let f = sym (final_takes (drop n qs) q) ∙ ap final rest ∙ ends in
      let same : q ≡ end_of t goal = cc in
      record { con_small = hc; at_end = omega arith; bit = b; row = is; long = long; rest = sym rest }

-- the targets behind n of a transition
module _ {rs : List Record} {t : List ℕ} {c q : ℕ} {qs : List ℕ} (is : TransitionIs rs t c q qs) (n b : ℕ) (e : b ≡ targets_of_spec t c q / 16 ^ n) (h : n ≤ length qs) where
  digits_behind : (k : ℕ) → k < length qs - n → get_or (drop n qs) k 0 ≡ b / 16 ^ k % 16
  digits_behind k l =
      get_or-drop n qs k 0 ∙ is.target (n + k) (omega arith)
      ∙ ap (λ d. targets_of_spec t c q / d % 16) (pow-add 16 n k)
      ∙ ap (λ d. d % 16) (sym (div-div-eq-div-mul (targets_of_spec t c q) (16 ^ n) (16 ^ k)))
      ∙ ap (λ d. d / 16 ^ k % 16) (sym e)

module _ (t : List ℕ) (c n goal : ℕ) where
  none_built : ((rs : List Record) (σ : Ty) (q : ℕ) (qs : List ℕ) → AutomatonIs rs t → TypesAre rs t → Goal rs goal σ → Built rs t c n goal σ q qs → ⊥) → IsTargets t c n goal None
  none_built h =
      record {
        found = λ targets e. absurd (none-some targets e);
        all = λ x w e s σ g q qs f o.
            let are = subst (TypesAre w.rs) e s.types in
            let moves = subst (AutomatonIs w.rs) e s.automaton in
            absurd (h w.rs σ q qs moves are g (built are moves c n goal σ g q qs f o));
      }

  pub no_constructor : max_constructors ≤ c → IsTargets t c n goal None
  no_constructor h = none_built (λ rs σ q qs moves are g b. let l = b.con_small in omega arith)

  pub no_transition : (end present : ℕ) → EndsAt t goal end → present ≡ present_of_spec t c → bit_of (end % 16) present ≡ 0 → IsTargets t c n goal None
  no_transition end present e p z =
      none_built (λ rs σ q qs moves are g b.
      let same : bit_of (end % 16) present ≡ bit_of q (present_of_spec t c) = ap (λ j. bit_of (j % 16) present) (e rs are) ∙ ap (λ j. bit_of j present) b.at_end ∙ ap (bit_of q) p in
      let o = b.bit in
      omega arith)

  pub too_few : (arity : ℕ) → arity ≡ arity_of_spec t c → arity < n → IsTargets t c n goal None
  too_few arity e h = none_built (λ rs σ q qs moves are g b. let l = b.long in let a = b.row.arity in omega arith)

  module _ (end arity targets rest : ℕ) (r : Bool) (e : EndsAt t goal end) (a : arity ≡ arity_of_spec t c) (m : targets ≡ targets_of_spec t c (end % 16)) (behind : n ≤ 4 → rest ≡ targets / 16 ^ n) (matches : Matches t goal rest (arity - n) r) where
    -- what stands behind the first n targets of a transition at the end of the goal
    behind_is : {rs : List Record} (q : ℕ) (qs : List ℕ) → AutomatonIs rs t → c < max_constructors → end % 16 ≡ q → n ≤ length qs → TransitionIs rs t c q qs → rest ≡ targets_of_spec t c q / 16 ^ n
    behind_is q qs moves hc at-q l is =
        let few = moves.few c hc in
        let long = is.arity in
        behind (omega arith) ∙ ap (λ j. j / 16 ^ n) (m ∙ ap (targets_of_spec t c) at-q)

    pub no_match : r ≡ false → IsTargets t c n goal None
    no_match f =
        none_built (λ rs σ q qs moves are g b.
        let at-q = ap (λ j. j % 16) (e rs are) ∙ b.at_end in
        let len : length (drop n qs) ≡ arity - n = length-drop n qs ∙ ap (λ j. j - n) (b.row.arity ∙ sym a) in
        let digits = digits_behind b.row n rest (behind_is q qs moves b.con_small at-q b.long b.row) b.long in
        matches.no f (record { rs = rs; kept = []; τ = σ; ns = [] }) are σ g (drop n qs) q len (λ k l. digits k (let long = b.row.arity in omega arith)) b.rest)

    pub match_found : c < max_constructors → (present : ℕ) → present ≡ present_of_spec t c → (bit_of (end % 16) present ≡ 0 → ⊥) → n ≤ arity → r ≡ true → IsTargets t c n goal (Some targets)
    match_found hc present p bit l f =
        record {
          found = λ other same x w e' s σ g. there w (subst (TypesAre w.rs) e' s.types) (subst (AutomatonIs w.rs) e' s.automaton) σ g;
          all = λ x w e' s σ g q qs i o. all_of w (subst (TypesAre w.rs) e' s.types) (subst (AutomatonIs w.rs) e' s.automaton) σ g q qs i o;
        }
      where
        all_of : (w : World) → TypesAre w.rs t → AutomatonIs w.rs t → (σ : Ty) → Goal w.rs goal σ → (q : ℕ) (qs : List ℕ) → targets_at (transitions_of w.rs) q c ≡ some qs → off n (takes qs q) ≡ some σ → (found : ℕ) × (◌≡◌ (Some targets) (Some found)) × Targets n found qs
        all_of w are moves σ g q qs i o =
            let b = built are moves c n goal σ g q qs i o in
            let at-q = ap (λ j. j % 16) (e w.rs are) ∙ b.at_end in
            (targets, refl, (b.long, λ k h. b.row.target k (let long = b.long in omega arith) ∙ ap (λ j. j / 16 ^ k % 16) (sym (m ∙ ap (targets_of_spec t c) at-q))))

        there : (w : World) → TypesAre w.rs t → AutomatonIs w.rs t → (σ : Ty) → Goal w.rs goal σ → (q : ℕ) × (qs : List ℕ) × (targets_at (transitions_of w.rs) q c ≡ some qs) × (off n (takes qs q) ≡ some σ)
        there w are moves σ g =
            let (low, ends) = goal_end are goal σ g in
            let same : end % 16 ≡ end_of t goal = omega (arith, e w.rs are) in
            let one : bit_of (end % 16) (present_of_spec t c) ≡ 1 = ap (bit_of (end % 16)) (sym p) ∙ (let z : bit_of (end % 16) present ≡ 1 = omega arith in z) in
            let (qs, is) = moves.present (end % 16) c (omega arith) hc one in
            let long = is.arity in
            let n≤ : n ≤ length qs = omega arith in
            let len : length (drop n qs) ≡ arity - n = length-drop n qs ∙ ap (λ j. j - n) (is.arity ∙ sym a) in
            let digits = digits_behind is n rest (behind_is (end % 16) qs moves hc refl n≤ is) n≤ in
            let shape = matches.yes f w are σ g (drop n qs) (end % 16) len (λ k h. digits k (omega arith)) (ends ∙ ap state (sym same)) in
            (end % 16, qs, is.there, takes_off n qs (end % 16) n≤ ∙ ap some (sym shape))

-- a state, which is its own end
module _ (t : List ℕ) (c n q : ℕ) (low : q < max_states) where
  own_end : EndsAt t q q
  own_end rs are = sym (are.state_row q low).own_end

  small : q % 16 ≡ q
  small = omega arith

  pub state_missing : (present : ℕ) → present ≡ present_of_spec t c → bit_of q present ≡ 0 → IsTargets t c n q None
  state_missing present p z = no_transition t c n q q present own_end p (ap (λ j. bit_of j present) small ∙ z)

  pub state_partial : (arity : ℕ) → arity ≡ arity_of_spec t c → (arity ≡ n → ⊥) → IsTargets t c n q None
  state_partial arity a d = go (dec_lt arity n)
    where
      targets : ℕ
      targets = targets_of_spec t c (q % 16)

      go : Dec (arity < n) → IsTargets t c n q None
      go (yes h) = too_few t c n q arity a h
      go (no h) = no_match t c n q q arity targets (targets / 16 ^ n) false own_end a refl (λ l. refl) (match_short t q (targets / 16 ^ n) (arity - n) (omega arith) low) refl

  pub state_found : (arity targets present : ℕ) → c < max_constructors → present ≡ present_of_spec t c → (bit_of q present ≡ 0 → ⊥) → arity ≡ arity_of_spec t c → arity ≡ n → targets ≡ targets_of_spec t c q → IsTargets t c n q (Some targets)
  state_found arity targets present hc p bit a all m =
      match_found t c n q q arity targets (targets / 16 ^ n) true own_end a (m ∙ ap (targets_of_spec t c) (sym small)) (λ l. refl) (match_state t q (targets / 16 ^ n) (arity - n) (omega arith) low)
      hc present p (λ z. bit (ap (λ j. bit_of j present) (sym small) ∙ z)) (omega arith) refl

-- a constructor without arguments, and a set of states
takes_none : (qs : List ℕ) (q : ℕ) → length qs ≡ 0 → takes qs q ≡ state q
unfolding takes
takes_none [] q e = refl
takes_none (p ∷ ps) q e = absurd (omega arith)

leaf_targets : (t : List ℕ) (c q present arity : ℕ) → q < max_states → c < max_constructors → present ≡ present_of_spec t c → bit_of q present ≡ 1 → arity ≡ arity_of_spec t c → arity ≡ 0 → IsTargets t c 0 q (Some 0)
unfolding off
leaf_targets t c q present arity low hc ep b ea z =
    record {
      found = λ targets same x w e s σ g.
          let moves = subst (AutomatonIs w.rs) e s.automaton in
          let (qs, is) = moves.present q c low hc (ap (bit_of q) (sym ep) ∙ b) in
          let long = is.arity in
          (q, qs, is.there, ap some (takes_none qs q (omega arith) ∙ goal_type (of_state_law q low refl refl) g));
      all = λ x w e s σ g p qs f o. (0, refl, (omega arith, λ k h. absurd (omega arith)));
    }

module _ (t : List ℕ) (a : Node) (asked : ℕ) where
  pub leaf_decided : (present arity : ℕ) → a.count ≡ 0 → a.number < max_constructors → arity ≡ arity_of_spec t a.number → arity ≡ 0 → asked ≤ 65535 → present ≡ present_of_spec t a.number → Leaf t a asked (record { had = bit_and asked present; lacked = asked - bit_and asked present })
  leaf_decided present arity none hc ea z few ep =
      record {
        had = λ q b.
            let e = and_bit q asked present in
            let s = bit_small q asked in
            let p = bit_small q present in
            (none, leaf_targets t a.number q present arity (below q (omega arith)) hc ep (omega arith) ea z);
        lacked = λ q b.
            let e = minus_bit q asked present in
            let s = bit_small q asked in
            let p = bit_small q present in
            let in_set : bit_of q asked ≡ 1 = omega arith in
            (in_set, state_missing t a.number a.count q (below q in_set) present ep (omega arith));
      }
    where
      below : (q : ℕ) → bit_of q asked ≡ 1 → q < max_states
      below q b = go (dec_lt q max_states)
        where
          go : Dec (q < max_states) → q < max_states
          go (yes h) = h
          go (no h) = let u = high_bit q 16 asked (omega arith) (omega arith) in absurd (omega arith)

-- An argument of the constructor in front with its target, by a row of the table.
use Prim.Native.Nat.{ℕ, zero, suc, ◌<◌, ◌≤◌, min}
use native.Mathlib.Decide.{dec_lt}
use native.Mathlib.Omega.{arith}
use native.Mathlib.Nat.{le_of_suc-le-suc}
use mathlib.Core.Path.{◌≡◌, refl, sym, ap, ◌∙◌}
use mathlib.Core.List.{List, [], ◌∷◌}
use mathlib.Core.Option.{none, some}
use lib.ListN.{length, get_or, take}
use lib.Seq.{get_or-take}
use Rattle.scheme.specs.Terms.{Term, Terms, []ᵗ, ◌∷ᵗ◌, countᵗ, term_at}
use Rattle.scheme.specs.Replay.{argument, descend}
use Rattle.std.specs.Prelude.{None, Some}
use Rattle.std.proofs.lemmas.Option.{none-some, same_Some}
use Rattle.transitions.specs.rows.Rows.{targets_of}
use Rattle.replay.specs.letters.Letters.{IsTargetOf}

-- there are both
argument_some : (i : ℕ) (ts : Terms) (qs : List ℕ) (d : Term) → i < countᵗ ts → i < length qs → argument i ts qs ≡ some (record { term = term_at ts i d; state = get_or qs i 0 })
unfolding argument countᵗ term_at
argument_some i []ᵗ qs d h k = absurd (omega arith)
argument_some i (t ∷ᵗ ts) [] d h k = absurd (omega arith)
argument_some zero (t ∷ᵗ ts) (q ∷ qs) d h k = refl
argument_some (suc i) (t ∷ᵗ ts) (q ∷ qs) d h k = argument_some i ts qs d (le_of_suc-le-suc h) (le_of_suc-le-suc k)

no_argument : (i : ℕ) (ts : Terms) (qs : List ℕ) → countᵗ ts ≤ i → argument i ts qs ≡ none
unfolding argument countᵗ
no_argument i []ᵗ qs h = refl
no_argument i (t ∷ᵗ ts) [] h = refl
no_argument zero (t ∷ᵗ ts) (q ∷ qs) h = absurd (omega arith)
no_argument (suc i) (t ∷ᵗ ts) (q ∷ qs) h = no_argument i ts qs (le_of_suc-le-suc h)

no_target : (i : ℕ) (ts : Terms) (qs : List ℕ) → length qs ≤ i → argument i ts qs ≡ none
unfolding argument
no_target i []ᵗ qs h = refl
no_target i (t ∷ᵗ ts) [] h = refl
no_target zero (t ∷ᵗ ts) (q ∷ qs) h = absurd (omega arith)
no_target (suc i) (t ∷ᵗ ts) (q ∷ qs) h = no_target i ts qs (le_of_suc-le-suc h)

-- the first n elements are at most n, and at most all; those below n are among them
take_few : (n : ℕ) (l : List ℕ) → length (take n l) ≤ n
take_few zero l = omega arith
take_few (suc n) [] = omega arith
take_few (suc n) (x ∷ l) = let e = take_few n l in omega arith

take_short : (n : ℕ) (l : List ℕ) → length (take n l) ≤ length l
take_short zero l = omega arith
take_short (suc n) [] = omega arith
take_short (suc n) (x ∷ l) = let e = take_short n l in omega arith

take_enough : (n i : ℕ) (l : List ℕ) → i < n → i < length l → i < length (take n l)
take_enough zero i l h k = absurd (omega arith)
take_enough (suc n) i [] h k = absurd (omega arith)
take_enough (suc n) zero (x ∷ l) h k = omega arith
take_enough (suc n) (suc i) (x ∷ l) h k = let e = take_enough n i l (le_of_suc-le-suc h) (le_of_suc-le-suc k) in omega arith

-- the argument and the target that a letter leads to
pub descend_some : (i : ℕ) (ts : Terms) (targets : List ℕ) (arity : ℕ) (d : Term) → i < countᵗ ts → i < arity → i < length targets → descend i ts (targets_of arity (Some targets)) ≡ some (record { term = term_at ts i d; state = get_or targets i 0 })
unfolding targets_of descend
descend_some i ts targets arity d k l m =
    argument_some i ts (take arity targets) d k (take_enough arity i targets l m)
    ∙ ap (λ q. some (record { term = term_at ts i d; state = q })) (get_or-take arity targets i 0 l)

module _ {arity count i : ℕ} where
  pub target_none : IsTargetOf None arity count i None
  unfolding targets_of descend
  target_none = record { goes = λ q e. absurd (none-some q e); stops = λ e ts c l. refl }

  -- past the arguments that are held, those of the constructor and those of a row
  pub target_past : (targets : List ℕ) → min count (min arity 4) ≤ i → IsTargetOf (Some targets) arity count i None
  unfolding targets_of descend
  target_past targets h = record { goes = λ q e. absurd (none-some q e); stops = λ e ts c l. by ts c l (dec_lt i count) }
    where
      by : (ts : Terms) → countᵗ ts ≡ count → length targets ≡ 4 → Dec (i < count) → argument i ts (take arity targets) ≡ none
      by ts c l (yes k) = no_target i ts (take arity targets) (let a = take_few arity targets in let b = take_short arity targets in omega arith)
      by ts c l (no k) = no_argument i ts (take arity targets) (omega arith)

  pub target_there : (targets : List ℕ) → i < count → i < arity → i < 4 → (r : ℕ) → r ≡ get_or targets i 0 → IsTargetOf (Some targets) arity count i (Some r)
  target_there targets h k m r is = record { goes = λ q e. (targets, refl, h, k, m, sym is ∙ same_Some r q e); stops = λ e. absurd (none-some r (sym e)) }

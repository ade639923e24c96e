-- What is said of a binding, by its round; the places of its four numbers among all; and the number of a type that is listed.
use Prim.Native.Nat.{ℕ, zero, suc, ◌+◌, ◌*◌, ◌-◌, ◌<◌}
use native.Mathlib.Omega.{arith}
use native.Mathlib.Nat.{le_of_suc-le-suc, not-suc-le-zero, zero-add}
use mathlib.Core.Path.{◌≡◌, refl, sym, ap, ◌∙◌}
use mathlib.Core.Logic.{◌⊎◌, inl, inr}
use mathlib.Core.Bool.{Bool, true, false}
use mathlib.Core.List.Memᴰ
use mathlib.Core.List.{List, [], ◌∷◌, ◌++◌, Memᴰ}
use mathlib.Core.Option.{Option, none, some}
use borrow.Author.Tests.{ne_eqb}
use lib.ListN.{length, get_or, length-append, get_or-append}
use lib.Seq.{get_or-append-add}
use Rattle.scheme.specs.Lists.{choose◌then◌else◌}
use Rattle.scheme.specs.Reduction.{Plan}
use Rattle.scheme.specs.Types.{Ty, state, same}
use Rattle.scheme.specs.Typing.{Automaton, Binding}
use Rattle.scheme.specs.Rounds.{after}
use Rattle.scheme.specs.Flags.{round_of}
use Rattle.scheme.specs.Acceptance.{start_binding, holds_exactly, binding_reason}
use Rattle.scheme.proofs.Lists.{T→true, true→T, false_T}
use Rattle.scheme.proofs.Exact.{same→≡, ≡→same, same_refl}
use Rattle.casefile.specs.Explanations.{of_state, of_type, number_of, Explanation, explanation, explained, goal_number, four_numbers, numbers_from, explained_numbers}

-- Numbers: four for each binding.
pub four_long : (e : Option Explanation) → length (four_numbers e) ≡ 4
unfolding four_numbers
four_long none = refl
four_long (some e) = refl

module _ (f : ℕ → Option Explanation) where
  pub numbers_long : (i n : ℕ) → length (numbers_from f i n) ≡ 4 * n
  unfolding numbers_from
  numbers_long i zero = omega arith
  numbers_long i (suc n) =
      let four = four_long (f i) in
      let others = numbers_long (suc i) n in
      let both = length-append (four_numbers (f i)) (numbers_from f (suc i) n) in
      omega arith

  pub numbers_at : (i n j k p : ℕ) → j < n → k < 4 → p ≡ 4 * j + k → get_or (numbers_from f i n) p 0 ≡ get_or (four_numbers (f (i + j))) k 0
  unfolding numbers_from
  numbers_at i zero j k p h l e = absurd (not-suc-le-zero h)
  numbers_at i (suc n) zero k p h l e =
      let four = four_long (f i) in
      let here : p ≡ k = omega arith in
      let same : i ≡ i + 0 = omega arith in
      get_or-append (four_numbers (f i)) (numbers_from f (suc i) n) 0 p (omega arith) ∙ ap (λ q. get_or (four_numbers (f i)) q 0) here ∙ ap (λ q. get_or (four_numbers (f q)) k 0) same
  numbers_at i (suc n) (suc j) k p h l e =
      let four = four_long (f i) in
      let there : p ≡ length (four_numbers (f i)) + (4 * j + k) = omega arith in
      let same : suc i + j ≡ i + suc j = omega arith in
      ap (λ q. get_or (four_numbers (f i) ++ numbers_from f (suc i) n) q 0) there ∙ get_or-append-add (four_numbers (f i)) (numbers_from f (suc i) n) (4 * j + k) 0
      ∙ numbers_at (suc i) n j k (4 * j + k) (le_of_suc-le-suc h) l refl ∙ ap (λ q. get_or (four_numbers (f q)) k 0) same

module _ (aut : Automaton) (plan : Plan) (types : List Ty) (offered : List Binding) where
  pub explained_long : length (explained_numbers aut plan types offered) ≡ 4 * length offered
  unfolding explained_numbers
  explained_long = numbers_long (explained aut plan types offered) 0 (length offered)

  pub explained_at : (i k : ℕ) → i < length offered → k < 4 → get_or (explained_numbers aut plan types offered) (4 * i + k) 0 ≡ get_or (four_numbers (explained aut plan types offered i)) k 0
  unfolding explained_numbers
  explained_at i k h l =
      numbers_at (explained aut plan types offered) 0 (length offered) i k (4 * i + k) h l refl ∙ ap (λ j. get_or (four_numbers (explained aut plan types offered j)) k 0) (zero-add i)

  -- nothing is said of a binding that no round drops
  pub explained_kept : (i : ℕ) → round_of (holds_exactly aut plan) offered i ≡ 0 → explained aut plan types offered i ≡ none
  unfolding explained
  explained_kept i e = rw e refl

  -- and of one that round n drops, its reason under the set after one round less
  pub explained_dropped : (i n : ℕ) → round_of (holds_exactly aut plan) offered i ≡ suc n
      → explained aut plan types offered i ≡ some (explanation types (suc n) (binding_reason aut plan (after (holds_exactly aut plan) n offered) (get_or offered i start_binding)))
  unfolding explained
  explained_dropped i n e =
      let less : suc n - 1 ≡ n = omega arith in
      rw (e, ne_eqb (suc n) 0 (λ z. omega arith))
      (ap (λ k. some (explanation types (suc n) (binding_reason aut plan (after (holds_exactly aut plan) k offered) (get_or offered i start_binding)))) less)

-- the number of a state is not that of a type
pub goals_apart : (q m : ℕ) → q < 16 → goal_number (of_state q) ≡ goal_number (of_type m) → ⊥
unfolding goal_number
goals_apart q m h e = omega arith

-- Types by number.
-- the number of a type that no earlier one equals is its own
pub number_first : (types : List Ty) (m : ℕ) → m < length types → ((j : ℕ) → j < m → get_or types j (state 0) ≡ get_or types m (state 0) → ⊥) → number_of (get_or types m (state 0)) types ≡ m
unfolding number_of
number_first [] m h ne = absurd (not-suc-le-zero h)
number_first (σ ∷ σs) zero h ne = rw (T→true (same σ σ) (same_refl σ)) refl
number_first (σ ∷ σs) (suc m) h ne = go (same (get_or σs m (state 0)) σ) refl (number_first σs m (le_of_suc-le-suc h) (λ j l. ne (suc j) (omega arith)))
  where
    go : (v : Bool) → same (get_or σs m (state 0)) σ ≡ v → number_of (get_or σs m (state 0)) σs ≡ m → (choose v then 0 else suc (number_of (get_or σs m (state 0)) σs)) ≡ suc m
    go true e ih = absurd (ne 0 (omega arith) (sym (same→≡ (get_or σs m (state 0)) σ (true→T e))))
    go false e ih = ap suc ih

-- a type that is listed stands at its number
pub number_listed : {τ : Ty} {types : List Ty} → Memᴰ τ types → (number_of τ types < length types) × (get_or types (number_of τ types) (state 0) ≡ τ)
unfolding number_of
number_listed {types = []} k = absurd (Memᴰ.not-nil k)
number_listed {τ = τ} {types = σ ∷ σs} k = go (same τ σ) refl (Memᴰ.cases_cons k) (λ j. number_listed j)
  where
    Stands : ℕ → Type 0
    Stands m = (m < length (σ ∷ σs)) × (get_or (σ ∷ σs) m (state 0) ≡ τ)

    go : (v : Bool) → same τ σ ≡ v → (τ ≡ σ) ⊎ Memᴰ τ σs → (Memᴰ τ σs → (number_of τ σs < length σs) × (get_or σs (number_of τ σs) (state 0) ≡ τ)) → Stands (choose v then 0 else suc (number_of τ σs))
    go true e c ih = (omega arith, sym (same→≡ τ σ (true→T e)))
    go false e (inl s) ih = absurd (false_T e (≡→same τ σ s))
    go false e (inr j) ih = let (l, s) = ih j in (omega arith, s)

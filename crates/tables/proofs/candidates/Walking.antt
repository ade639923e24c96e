-- Arrows off a goal by the table, and the walk along the chain of a binding.
use Prim.Native.Nat.{ℕ, zero, suc, ◌+◌, ◌-◌, ◌*◌, ◌/◌, ◌%◌, ◌<◌, ◌≤◌}
use native.Mathlib.Omega.{arith}
use native.Mathlib.Decide.{ℕ_discrete, dec_lt}
use native.Mathlib.Nat.{mul-le-mul_right}
use mathlib.Core.Path.{◌≡◌, refl, sym, ap, ap₂, subst, ◌∙◌}
use mathlib.Core.Logic.{◌⊎◌, inl, inr}
use mathlib.Core.List.{List}
use mathlib.Core.Option.{some}
use Rattle.scheme.specs.Types.{Ty, state, arrow, off}
use Rattle.casefile.specs.Records.{Record}
use Rattle.index.specs.layout.Layout.{word_bits, no_number}
use Rattle.tables.specs.Facts.{Goal, TypesAre}
use Rattle.tables.specs.reading.Cells.{result_of, own_of, off_of}
use Rattle.tables.specs.declared.candidates.Chain.{Chain}
use Rattle.tables.specs.candidates.Chains.{along, widest, OnChain, Passes, Begins}
use Rattle.tables.proofs.reading.Offs.{off_none, off_next}
use Rattle.tables.proofs.types.Meaning.{goal_below, state_goal}

-- one arrow more off
module _ (t : List ℕ) where
  pub off_last : (k g : ℕ) → (off_of t k g ≡ no_number → ⊥) → off_of t (suc k) g ≡ result_of t (off_of t k g)
  unfolding off_of
  off_last zero g ne = off_next t 0 g ne
  off_last (suc k) g ne = go (ℕ_discrete g no_number) (λ m. off_last k (result_of t g) m)
    where
      go : Dec (g ≡ no_number) → ((off_of t k (result_of t g) ≡ no_number → ⊥) → off_of t (suc k) (result_of t g) ≡ result_of t (off_of t k (result_of t g))) → off_of t (suc (suc k)) g ≡ result_of t (off_of t (suc k) g)
      go (yes e) ih = absurd (ne (off_none t (suc k) g e (omega arith)))
      go (no d) ih =
          let s = off_next t k g d in
          off_next t (suc k) g d ∙ ih (λ z. ne (s ∙ z)) ∙ ap (result_of t) (sym s)

  pub off_ended : (k g : ℕ) → off_of t k g ≡ no_number → off_of t (suc k) g ≡ no_number
  unfolding off_of
  off_ended zero g e = off_none t 1 g e (omega arith)
  off_ended (suc k) g e = go (ℕ_discrete g no_number) (off_ended k (result_of t g))
    where
      go : Dec (g ≡ no_number) → (off_of t k (result_of t g) ≡ no_number → off_of t (suc k) (result_of t g) ≡ no_number) → off_of t (suc (suc k)) g ≡ no_number
      go (yes z) ih = off_none t (suc (suc k)) g z (omega arith)
      go (no d) ih = off_next t (suc k) g d ∙ ih (sym (off_next t k g d) ∙ e)

  ended_on : (k n g : ℕ) → off_of t k g ≡ no_number → off_of t (k + n) g ≡ no_number
  ended_on k zero g e = let z : k + 0 ≡ k = omega arith in ap (λ j. off_of t j g) z ∙ e
  ended_on k (suc n) g e = let z : k + suc n ≡ suc (k + n) = omega arith in ap (λ j. off_of t j g) z ∙ off_ended (k + n) g (ended_on k n g e)

-- along the chain of a binding: k arrows are off, and so many steps are left
pub record Walked (t : List ℕ) (b : ℕ) (s : Chain) (k : ℕ) : Type 0 where
  pub table : s.t.now ≡ t
  pub steps : k + s.steps ≡ 256
  pub small : s.goal < 65536
  pub at : s.goal ≡ along t b k

pub walk_none : {t : List ℕ} {b : ℕ} {s first : Chain} → s ≡ first → Begins t b first → Walked t b s 0
unfolding off_of
walk_none {t} {b} e x = subst (λ y. Walked t b y 0) (sym e) (record { table = x.table; steps = let e = x.all_steps in omega arith; small = x.small; at = x.first })

module _ {t : List ℕ} {b : ℕ} {s : Chain} {k : ℕ} (so : Walked t b s k) where
  pub walk_more : {g : ℕ} {s' : Chain} → Passes s g s' → Walked t b s' (k + 1)
  walk_more {g} p =
      record {
        table = p.table ∙ so.table;
        steps = let e = so.steps in let f = p.step in omega arith;
        small = p.small;
        at = p.next ∙ ap₂ result_of so.table (p.is_goal ∙ so.at) ∙ sym (off_last t k (own_of t b) (λ z. p.some_goal (p.is_goal ∙ so.at ∙ z))) ∙ ap (along t b) (let z : suc k ≡ k + 1 = omega arith in z);
      }

  pub walk_ended : s.goal ≡ no_number → (j : ℕ) → k ≤ j → along t b j ≡ no_number
  walk_ended e j l = let z : k + (j - k) ≡ j = omega arith in ap (along t b) (sym z) ∙ ended_on t k (j - k) (own_of t b) (sym so.at ∙ e)

  -- where the walk is over, nothing stands behind on the chain
  pub walk_over : (s.goal ≡ no_number) ⊎ (s.steps ≡ 0) → (j : ℕ) → k ≤ j → j < 256 → along t b j ≡ no_number
  walk_over (inl e) j l h = walk_ended e j l
  walk_over (inr e) j l h = absurd (let f = so.steps in omega arith)

-- a goal with arrows off, by the table
pub chain : {rs : List Record} {t : List ℕ} → TypesAre rs t → (k g : ℕ) (τ σ : Ty) → Goal rs g τ → off k τ ≡ some σ → Goal rs (off_of t k g) σ
unfolding off off_of
chain {rs} {t} ts zero g τ σ x e = let z : τ ≡ σ = cc in subst (Goal rs g) z x
chain {rs} {t} ts (suc k) g (state q) σ x e = absurd (let z : ◌≡◌ {A = ℕ} 0 1 = cc in omega arith)
chain {rs} {t} ts (suc k) g (arrow a r) σ x e =
    let l = goal_below x in
    let few = ts.few_types_law in
    let ne : g ≡ no_number → ⊥ = λ z. omega arith in
    subst (λ y. Goal rs y σ) (sym (off_next t k g ne)) (chain ts k (result_of t g) r σ (ts.arrow_row g a r x).result e)

-- where the table has a goal, so many arrows can be taken off the type
pub on_chain : {rs : List Record} {t : List ℕ} → TypesAre rs t → (k g : ℕ) (τ : Ty) → Goal rs g τ → (off_of t k g ≡ no_number → ⊥) → (σ : Ty) × (off k τ ≡ some σ) × Goal rs (off_of t k g) σ
unfolding off off_of
on_chain {rs} {t} ts zero g τ x ne = (τ, refl, x)
on_chain {rs} {t} ts (suc k) g (state q) x ne = absurd (ne (ended (ℕ_discrete g no_number)))
  where
    ended : Dec (g ≡ no_number) → off_of t (suc k) g ≡ no_number
    ended (yes z) = off_none t (suc k) g z (omega arith)
    ended (no z) = off_next t k g z ∙ ap (λ j. off_of t j (result_of t g)) (let n : k ≡ 0 + k = omega arith in n) ∙ ended_on t 0 k (result_of t g) (ts.state_row g (let (e, l) = state_goal x in omega arith)).no_result
on_chain {rs} {t} ts (suc k) g (arrow a r) x ne =
    let l = goal_below x in
    let few = ts.few_types_law in
    let d : g ≡ no_number → ⊥ = λ z. omega arith in
    let e = off_next t k g d in
    let (σ, o, y) = on_chain ts k (result_of t g) r (ts.arrow_row g a r x).result (λ z. ne (e ∙ z)) in
    (σ, o, subst (λ z. Goal rs z σ) (sym e) y)

-- rows of words do not overlap
pub apart : (words g h x y : ℕ) → x < words → y < words → g * words + x ≡ h * words + y → (g ≡ h) × (x ≡ y)
apart words g h x y lx ly e = go (dec_lt g h) (dec_lt h g)
  where
    next : (a b : ℕ) → a < b → a * words + words ≤ b * words
    next a b l = let m : suc a * words ≤ b * words = mul-le-mul_right words l in omega arith

    go : Dec (g < h) → Dec (h < g) → (g ≡ h) × (x ≡ y)
    go (yes a) d = let n = next g h a in absurd (omega arith)
    go (no a) (yes b) = let n = next h g b in absurd (omega arith)
    go (no a) (no b) = let z : g ≡ h = omega arith in let u : g * words ≡ h * words = ap (λ k. k * words) z in (z, omega arith)

-- no two bindings have the same bit
pub same_bit : {t : List ℕ} {words c g i : ℕ} (n : ℕ) → n ≤ 65536 → words ≡ (n + 31) / word_bits → c < n → i < n → (on : OnChain t c words (g * words + i / word_bits) (i % word_bits)) → (g ≡ along t c on.steps) × (i ≡ c)
same_bit {t} {words} {c} {g} {i} n few ew lc li on =
    let wide : words % widest ≡ words = omega arith in
    let h = along t c on.steps in
    let (u, v) = apart words g h (i / word_bits) (c / word_bits) (omega arith) (omega arith) (on.word ∙ ap (λ z. h * z + c / word_bits) wide) in
    let e = on.bit in
    (u, omega arith)

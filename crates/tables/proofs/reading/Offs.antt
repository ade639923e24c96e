-- Arrows off a goal, step by step; a node by its cells.
use Prim.Native.Nat.{ℕ, zero, suc, ◌+◌, ◌-◌, ◌/◌, ◌%◌, ◌<◌, ◌≤◌}
use native.Mathlib.Omega.{arith}
use mathlib.Core.Path.{◌≡◌, refl, sym, ap, ◌∙◌}
use mathlib.Core.List.{List}
use borrow.Author.Tests.{eq-eqb, ne_eqb}
use lib.ListN.{get_or}
use Rattle.scheme.specs.Lists.{choose◌then◌else◌}
use Rattle.index.specs.layout.Layout.{no_number, number_cell, next_cell}
use Rattle.tables.specs.reading.Cells.{result_of, off_of, node_place, node_at}
use Rattle.tables.specs.declared.reading.Node.{Node}

module _ (t : List ℕ) where
  -- no number has no arrows
  pub off_none : (k g : ℕ) → g ≡ no_number → 0 < k → off_of t k g ≡ no_number
  unfolding off_of
  off_none zero g e h = absurd (omega arith)
  off_none (suc k) g e h = ap (λ b. choose b then no_number else off_of t k (result_of t g)) (eq-eqb g no_number e)

  pub off_next : (k g : ℕ) → (g ≡ no_number → ⊥) → off_of t (suc k) g ≡ off_of t k (result_of t g)
  unfolding off_of
  off_next k g ne = ap (λ b. choose b then no_number else off_of t k (result_of t g)) (ne_eqb g no_number ne)

  -- while arrows are taken off: what is left of those that are asked for is taken off what is left
  pub record Left (goal k g i : ℕ) : Type 0 where
    pub up_to : i ≤ k
    pub same : off_of t (k - i) g ≡ off_of t k goal

  pub left_start : (goal k : ℕ) → Left goal k goal 0
  left_start goal k = record { up_to = omega arith; same = ap (λ j. off_of t j goal) (let e : k - 0 ≡ k = omega arith in e) }

  module _ {goal k g i : ℕ} (w : Left goal k g i) where
    pub left_none : i < k → g ≡ no_number → no_number ≡ off_of t k goal
    left_none h e = sym (off_none (k - i) g e (omega arith)) ∙ w.same

    pub left_next : (g' i' : ℕ) → i < k → (g ≡ no_number → ⊥) → g' ≡ result_of t g → i' ≡ suc i → Left goal k g' i'
    left_next g' i' h ne e ei =
        let n : k - i ≡ suc (k - i') = omega arith in
        record { up_to = omega arith; same = ap (off_of t (k - i')) e ∙ sym (off_next (k - i') g ne) ∙ ap (λ j. off_of t j g) (sym n) ∙ w.same }

    pub left_end : k ≤ i → g ≡ off_of t k goal
    unfolding off_of
    left_end h = let u = w.up_to in let n : k - i ≡ 0 = omega arith in sym (ap (λ j. off_of t j g) n) ∙ w.same

  pub node_made : (base i head number next : ℕ) → head ≡ get_or t (node_place base i) 0 → number ≡ get_or t (node_place base i + number_cell) 0 → next ≡ get_or t (node_place base i + next_cell) 0
      → ◌≡◌ {A = Node} (record { tag = head % 4; count = head / 4; number = number; next = next }) (node_at t base i)
  unfolding node_at
  node_made base i head number next a b c = rw (a, b, c) refl

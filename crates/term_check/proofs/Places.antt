-- Terms by their first node in a body: the arguments behind a head, the first of several terms and the others.
use Prim.Native.Nat.{ℕ, zero, suc, ◌+◌, ◌<◌}
use native.Mathlib.Omega.{arith}
use mathlib.Core.Path.{◌≡◌, refl, sym, ap, ◌∙◌}
use mathlib.Core.List.{List}
use lib.ListN.{drop}
use lib.Seq.{drop-drop}
use Rattle.scheme.specs.Terms.{Head, par, Term, node, Terms, []ᵗ, ◌∷ᵗ◌, countᵗ, nodes}
use Rattle.scheme.specs.Prefix.{Node, flat}
use Rattle.tables.specs.Facts.{At, AllAt, head_by}

pub nodes_some : (t : Term) → 0 < nodes t
unfolding nodes
nodes_some (node h ts) = omega arith

pub no_terms : (ts : Terms) → countᵗ ts ≡ 0 → ts ≡ []ᵗ
unfolding countᵗ
no_terms []ᵗ e = refl
no_terms (t ∷ᵗ ts) e = absurd (omega arith)

-- neither a constructor nor a nonterminal in front
pub head_given : (tag number : ℕ) → (tag ≡ 0 → ⊥) → (tag ≡ 1 → ⊥) → head_by tag number ≡ par number
unfolding head_by
head_given zero number a b = absurd (a refl)
head_given (suc zero) number a b = absurd (b refl)
head_given (suc (suc tag)) number a b = refl

module _ (ns : List Node) (i : ℕ) where
  -- the arguments behind a head
  pub behind_head : (h : Head) (ts : Terms) → At ns i (node h ts) → AllAt ns (suc i) ts
  unfolding flat
  behind_head h ts (rest, e) = (rest, (let n : i + 1 ≡ suc i = omega arith in ap (λ k. drop k ns) (sym n)) ∙ sym (drop-drop 1 i ns) ∙ ap (drop 1) e)

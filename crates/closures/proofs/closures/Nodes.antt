-- Nodes in a file: those of a term, then those of the next. Heads by tag and number.
use Prim.Native.Nat.{ℕ, zero, suc, ◌+◌, ◌-◌, ◌*◌, ◌≤◌}
use native.Mathlib.Omega.{arith}
use mathlib.Core.Path.{◌≡◌, refl, sym, ap, ap₂, subst, ◌∙◌}
use mathlib.Core.List.{List, [], ◌∷◌, ◌++◌, append-nil}
use lib.ListN.{length}
use Rattle.scheme.specs.Terms.{Head, con, nt, par, Term, node, Terms, []ᵗ, ◌∷ᵗ◌, ◌++ᵗ◌, countᵗ, nodes}
use Rattle.scheme.specs.Prefix.{Node, flat, flats}
use Rattle.scheme.proofs.Prefix.{length_flat}
use Rattle.casefile.specs.Tables.{head_of}
use Rattle.closures.specs.closures.Nodes.{head_by, NodeAt, NodesAt}
use Rattle.closures.proofs.closures.Trees.{flats_append}

at_split : (file : List ℕ) (p q : ℕ) (ns ms : List Node) → q ≡ p + 4 * length ns → NodesAt file p (ns ++ ms) → NodesAt file p ns × NodesAt file q ms
unfolding NodesAt
at_split file p q [] ms e w = (tt, subst (λ r. NodesAt file r ms) (let z : p ≡ q = omega arith in z) w)
at_split file p q (n ∷ ns) ms e (x, w) = let (a, b) = at_split file (p + 4) q ns ms (omega arith) w in ((x, a), b)

module _ (file : List ℕ) (p : ℕ) where
  -- the first node of a term, and behind it the arguments
  pub at_node : (h : Head) (ts : Terms) → NodesAt file p (flat (node h ts)) → NodeAt file p (record { head = h; count = countᵗ ts }) × NodesAt file (p + 4) (flats ts)
  unfolding NodesAt flat
  at_node h ts w = w

  -- a term, and behind it the next
  pub at_terms : (t : Term) (ts : Terms) (q : ℕ) → q ≡ p + 4 * nodes t → NodesAt file p (flats (t ∷ᵗ ts)) → NodesAt file p (flat t) × NodesAt file q (flats ts)
  unfolding flats
  at_terms t ts q e w = at_split file p q (flat t) (flats ts) (let l = length_flat t in omega arith) w

  pub at_one : (t : Term) → NodesAt file p (flat t) → NodesAt file p (flats (t ∷ᵗ []ᵗ))
  unfolding flats
  at_one t w = subst (NodesAt file p) (sym (append-nil (flat t))) w

  -- one node is passed
  pub at_next : (h : Head) (us ts : Terms) → NodesAt file p (flats (node h us ∷ᵗ ts)) → NodeAt file p (record { head = h; count = countᵗ us }) × NodesAt file (p + 4) (flats (us ++ᵗ ts))
  unfolding NodesAt flats
  at_next h us ts (x, w) = (x, subst (NodesAt file (p + 4)) (sym (flats_append us ts)) w)

-- a head by its tag and number
pub nonterminal_tag : (tag number f : ℕ) → head_by tag number ≡ nt f → (tag ≡ 1) × (number ≡ f)
unfolding head_of
nonterminal_tag zero number f e = let z : ◌≡◌ {A = ℕ} 0 1 = cc in absurd (omega arith)
nonterminal_tag (suc zero) number f e = (refl, cc)
nonterminal_tag (suc (suc tag)) number f e = let z : ◌≡◌ {A = ℕ} 0 1 = cc in absurd (omega arith)

pub constructor_tag : (tag number c : ℕ) → head_by tag number ≡ con c → (tag ≡ 0) × (number ≡ c)
unfolding head_of
constructor_tag zero number c e = (refl, cc)
constructor_tag (suc zero) number c e = let z : ◌≡◌ {A = ℕ} 0 1 = cc in absurd (omega arith)
constructor_tag (suc (suc tag)) number c e = let z : ◌≡◌ {A = ℕ} 0 1 = cc in absurd (omega arith)

pub parameter_tag : (tag number i : ℕ) → head_by tag number ≡ par i → (2 ≤ tag) × (number ≡ i)
unfolding head_of
parameter_tag zero number i e = let z : ◌≡◌ {A = ℕ} 0 1 = cc in absurd (omega arith)
parameter_tag (suc zero) number i e = let z : ◌≡◌ {A = ℕ} 0 1 = cc in absurd (omega arith)
parameter_tag (suc (suc tag)) number i e = (omega arith, cc)

-- the head with a tag and a number, by the tag
module _ (tag number r : ℕ) (e : r ≡ number) where
  pub constructor_by : tag ≡ 0 → con r ≡ head_by tag number
  unfolding head_of
  constructor_by z = ap₂ head_by (sym z) e

  pub nonterminal_by : tag ≡ 1 → nt r ≡ head_by tag number
  unfolding head_of
  nonterminal_by z = ap₂ head_by (sym z) e

  pub parameter_by : 2 ≤ tag → par r ≡ head_by tag number
  unfolding head_of
  parameter_by h = let z : suc (suc (tag - 2)) ≡ tag = omega arith in ap par e ∙ ap (λ n. head_by n number) z

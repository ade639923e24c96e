-- Terms one after another: how many they are and how many nodes they have, alone and with terms put for parameters.
use Prim.Native.Nat.{ℕ, zero, suc, ◌+◌, ◌<◌, ◌≤◌}
use native.Mathlib.Omega.{arith}
use native.Mathlib.Nat.{le_of_suc-le-suc}
use mathlib.Core.Path.{◌≡◌, refl, sym, ap, ap₂, ◌∙◌}
use mathlib.Core.List.{List, [], ◌∷◌, ◌++◌, append_assoc}
use Rattle.scheme.specs.Terms.{Head, con, nt, par, Term, node, Terms, []ᵗ, ◌∷ᵗ◌, ◌++ᵗ◌, countᵗ, term_at, nodes, nodes_all, applied, put, puts}
use Rattle.scheme.specs.Prefix.{Node, dropᵗ, flat, flats}
use Rattle.closures.specs.closures.Promises.{weight, weights}

pub count_append : (ts us : Terms) → countᵗ (ts ++ᵗ us) ≡ countᵗ ts + countᵗ us
unfolding countᵗ ◌++ᵗ◌
count_append []ᵗ us = omega arith
count_append (t ∷ᵗ ts) us = let e = count_append ts us in omega arith

pub nodes_append : (ts us : Terms) → nodes_all (ts ++ᵗ us) ≡ nodes_all ts + nodes_all us
unfolding nodes_all ◌++ᵗ◌
nodes_append []ᵗ us = omega arith
nodes_append (t ∷ᵗ ts) us = let e = nodes_append ts us in omega arith

pub flats_append : (ts us : Terms) → flats (ts ++ᵗ us) ≡ flats ts ++ flats us
unfolding flats ◌++ᵗ◌
flats_append []ᵗ us = refl
flats_append (t ∷ᵗ ts) us = ap (flat t ++◌) (flats_append ts us) ∙ sym (append_assoc (flat t) (flats ts) (flats us))

pub append_assocᵗ : (ts us vs : Terms) → (ts ++ᵗ us) ++ᵗ vs ≡ ts ++ᵗ (us ++ᵗ vs)
unfolding ◌++ᵗ◌
append_assocᵗ []ᵗ us vs = refl
append_assocᵗ (t ∷ᵗ ts) us vs = ap (t ∷ᵗ◌) (append_assocᵗ ts us vs)

pub nodes_node : (h : Head) (ts : Terms) → nodes (node h ts) ≡ suc (nodes_all ts)
unfolding nodes
nodes_node h ts = refl

pub nodes_applied : (t : Term) (us : Terms) → nodes (applied t us) ≡ nodes t + nodes_all us
unfolding nodes applied
nodes_applied (node h ts) us = let e = nodes_append ts us in omega arith

pub none_left : (us : Terms) → countᵗ us ≡ 0 → us ≡ []ᵗ
unfolding countᵗ
none_left []ᵗ q = refl
none_left (u ∷ᵗ us) q = absurd (omega arith)

-- the default does not matter where there is a term, and stands where there is none
pub term_in : (ts : Terms) (i : ℕ) (d e : Term) → i < countᵗ ts → term_at ts i d ≡ term_at ts i e
unfolding countᵗ term_at
term_in []ᵗ i d e h = absurd (omega arith)
term_in (t ∷ᵗ ts) zero d e h = refl
term_in (t ∷ᵗ ts) (suc i) d e h = term_in ts i d e (le_of_suc-le-suc h)

pub term_past : (ts : Terms) (i : ℕ) (d : Term) → countᵗ ts ≤ i → term_at ts i d ≡ d
unfolding countᵗ term_at
term_past []ᵗ i d h = refl
term_past (t ∷ᵗ ts) zero d h = absurd (omega arith)
term_past (t ∷ᵗ ts) (suc i) d h = term_past ts i d (le_of_suc-le-suc h)

-- the terms from term i on
pub drop_next : (ts : Terms) (i : ℕ) (d : Term) → i < countᵗ ts → dropᵗ i ts ≡ term_at ts i d ∷ᵗ dropᵗ (suc i) ts
unfolding countᵗ term_at dropᵗ
drop_next []ᵗ i d h = absurd (omega arith)
drop_next (t ∷ᵗ ts) zero d h = refl
drop_next (t ∷ᵗ ts) (suc i) d h = drop_next ts i d (le_of_suc-le-suc h)

pub drop_none : (ts : Terms) (i : ℕ) → countᵗ ts ≤ i → dropᵗ i ts ≡ []ᵗ
unfolding countᵗ dropᵗ
drop_none []ᵗ zero h = refl
drop_none []ᵗ (suc i) h = refl
drop_none (t ∷ᵗ ts) zero h = absurd (omega arith)
drop_none (t ∷ᵗ ts) (suc i) h = drop_none ts i (le_of_suc-le-suc h)

-- a term among others has no more nodes than all
pub nodes_at : (ts : Terms) (i : ℕ) (d : Term) → i < countᵗ ts → nodes (term_at ts i d) ≤ nodes_all ts
unfolding countᵗ term_at nodes_all
nodes_at []ᵗ i d h = absurd (omega arith)
nodes_at (t ∷ᵗ ts) zero d h = omega arith
nodes_at (t ∷ᵗ ts) (suc i) d h = let e = nodes_at ts i d (le_of_suc-le-suc h) in omega arith

-- a term of two lists one after the other
pub term_left : (ts us : Terms) (i : ℕ) (d : Term) → i < countᵗ ts → term_at (ts ++ᵗ us) i d ≡ term_at ts i d
unfolding countᵗ term_at ◌++ᵗ◌
term_left []ᵗ us i d h = absurd (omega arith)
term_left (t ∷ᵗ ts) us zero d h = refl
term_left (t ∷ᵗ ts) us (suc i) d h = term_left ts us i d (le_of_suc-le-suc h)

pub term_right : (ts us : Terms) (i j : ℕ) (d : Term) → i ≡ countᵗ ts + j → term_at (ts ++ᵗ us) i d ≡ term_at us j d
unfolding countᵗ term_at ◌++ᵗ◌
term_right []ᵗ us i j d e = ap (λ k. term_at us k d) (let z : i ≡ j = omega arith in z)
term_right (t ∷ᵗ ts) us zero j d e = absurd (omega arith)
term_right (t ∷ᵗ ts) us (suc i) j d e = term_right ts us i j d (omega arith)

pub count_puts : (xs ts : Terms) → countᵗ (puts xs ts) ≡ countᵗ ts
unfolding countᵗ puts
count_puts xs []ᵗ = refl
count_puts xs (t ∷ᵗ ts) = ap suc (count_puts xs ts)

pub puts_at : (xs ts : Terms) (i : ℕ) (d e : Term) → i < countᵗ ts → term_at (puts xs ts) i d ≡ put xs (term_at ts i e)
unfolding countᵗ puts term_at
puts_at xs []ᵗ i d e h = absurd (omega arith)
puts_at xs (t ∷ᵗ ts) zero d e h = refl
puts_at xs (t ∷ᵗ ts) (suc i) d e h = puts_at xs ts i d e (le_of_suc-le-suc h)

-- the nodes of the terms from term i on: those of term i, and the others
pub nodes_drop : (xs ts : Terms) (i : ℕ) (d : Term) → i < countᵗ ts → nodes_all (puts xs (dropᵗ i ts)) ≡ nodes (put xs (term_at ts i d)) + nodes_all (puts xs (dropᵗ (suc i) ts))
unfolding puts nodes_all
nodes_drop xs ts i d h = ap (λ us. nodes_all (puts xs us)) (drop_next ts i d h)

pub nodes_dropped : (xs ts : Terms) (i : ℕ) → countᵗ ts ≤ i → nodes_all (puts xs (dropᵗ i ts)) ≡ 0
unfolding puts nodes_all
nodes_dropped xs ts i h = ap (λ us. nodes_all (puts xs us)) (drop_none ts i h)

-- a head with its arguments, terms being put for parameters
pub nodes_put : (xs : Terms) (h : Head) (ts : Terms) → nodes (put xs (node h ts)) ≡ weight xs h + nodes_all (puts xs ts)
unfolding put nodes weight
nodes_put xs (con c) ts = omega arith
nodes_put xs (nt f) ts = omega arith
nodes_put xs (par i) ts = nodes_applied (term_at xs i (node (par i) []ᵗ)) (puts xs ts)

weights_append : (xs : Terms) (ns ms : List Node) → weights xs (ns ++ ms) ≡ weights xs ns + weights xs ms
unfolding weights
weights_append xs [] ms = omega arith
weights_append xs (n ∷ ns) ms = let e = weights_append xs ns ms in omega arith

mutual
  unfolding flat puts weights nodes

  -- the weights of a term's nodes are its nodes with terms put for its parameters
  pub weights_flat : (xs : Terms) (t : Term) → weights xs (flat t) ≡ nodes (put xs t)
  weights_flat xs (node h ts) = let e = weights_flats xs ts in let f = nodes_put xs h ts in omega arith

  pub weights_flats : (xs ts : Terms) → weights xs (flats ts) ≡ nodes_all (puts xs ts)
  weights_flats xs []ᵗ = refl
  weights_flats xs (t ∷ᵗ ts) = weights_append xs (flat t) (flats ts) ∙ ap₂ ◌+◌ (weights_flat xs t) (weights_flats xs ts)

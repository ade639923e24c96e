-- The nodes of a term in a file, with the terms of a frame put for its parameters: summed node by node. Its closure.
use Prim.Native.Nat.{ℕ, suc, ◌+◌, ◌-◌, ◌*◌, ◌%◌, ◌<◌, ◌≤◌}
use native.Mathlib.Omega.{arith}
use mathlib.Core.Path.{◌≡◌, refl, sym, ap, ap₂, subst, ◌∙◌}
use mathlib.Core.List.{List, append-nil}
use lib.ListN.{get_or}
use Rattle.scheme.specs.Terms.{Head, par, Term, node, Terms, []ᵗ, ◌∷ᵗ◌, ◌++ᵗ◌, countᵗ, term_at, nodes, nodes_all, applied, put}
use Rattle.scheme.specs.Prefix.{Node, flat, flats}
use Rattle.scheme.proofs.Prefix.{append_nilᵗ}
use Rattle.casefile.specs.Fields.{byte, word}
use Rattle.std.specs.Prelude.{Option, None, Some, unwrap_or}
use Rattle.std.proofs.lemmas.Option.{MatchOption-at_some, MatchOption-at_none}
use Rattle.closures.specs.heads.Heads.{head_as}
use Rattle.closures.specs.declared.heads.Head.{Head as Code}
use Rattle.closures.specs.declared.heads.Head.TheVariants.{Constructor, Nonterminal, Parameter}
use Rattle.closures.specs.declared.closures.Closure.{Closure as Packed}
use Rattle.closures.specs.closures.Nodes.{head_by, NodeAt, NodesAt}
use Rattle.closures.specs.closures.Closures.{slot_of, lone, Closure, Frame}
use Rattle.closures.specs.closures.Promises.{IsClosureAt, weight, weights, Weighs, Measures, Packs, Closes}
use Rattle.closures.proofs.closures.Trees.{count_append, nodes_append, flats_append, none_left, term_in, term_past, weights_flat}
use Rattle.closures.proofs.closures.Nodes.{at_node, at_one, at_next}
use Rattle.closures.proofs.closures.Closures.{closure_up, closure_size, closure_from}
use Rattle.index.specs.layout.Layout.{node_units, place_units, block_units}

-- a head that is no parameter counts one
weight_other : (h : Code) → ((i : ℕ) → h ≡ Parameter i → ⊥) → (xs : Terms) → weight xs (head_as h) ≡ 1
unfolding weight
weight_other (Constructor c) k xs = refl
weight_other (Nonterminal f) k xs = refl
weight_other (Parameter i) k xs = absurd (k i refl)

-- a node whose head is a parameter
parameter_here : (file : List ℕ) (at : ℕ) (h : Code) → head_as h ≡ head_by (byte file at) (word file (at + 1)) → (number : ℕ) → h ≡ Parameter number → (n : Node) → NodeAt file at n → n.head ≡ par number
parameter_here file at h eh number e n here = sym (eh ∙ here.head_is) ∙ ap head_as e

weight_past : (xs : Terms) (i : ℕ) → countᵗ xs ≤ i → weight xs (par i) ≡ 1
unfolding weight nodes
weight_past xs i h = ap nodes (term_past xs i (node (par i) []ᵗ) h)

-- the closure of a parameter
module _ {file cells : List ℕ} {block count : ℕ} {xs : Terms} (frame : Frame file cells block count xs) (i v : ℕ) (below : i < count) (e : v ≡ get_or cells (slot_of block count + i) 0) where
  pub parameter_closure : Closure file cells block v (term_at xs i (node (par i) []ᵗ))
  parameter_closure =
      let c = frame.counted in
      subst (Closure file cells block v) (term_in xs i lone (node (par i) []ᵗ) (omega arith))
      (subst (λ w. Closure file cells block w (term_at xs i lone)) (sym e) (frame.closures i below))

  pub parameter_size : v % node_units ≡ weight xs (par i)
  unfolding weight
  parameter_size = closure_size parameter_closure

module _ {file cells : List ℕ} {at block count : ℕ} where
  module _ (h : Code) (eh : head_as h ≡ head_by (byte file at) (word file (at + 1))) where
    pub weigh_head : ((i : ℕ) → h ≡ Parameter i → ⊥) → Weighs file cells at block count 1
    weigh_head k = record { small = omega arith; weighs = λ n xs here frame few. sym (ap (weight xs) (sym (eh ∙ here.head_is)) ∙ weight_other h k xs) }

    module _ (number : ℕ) (e : h ≡ Parameter number) (r : Option Packed) (is : IsClosureAt cells block count number r) where
      pub weigh_free : r ≡ None → Weighs file cells at block count 1
      weigh_free z =
          record {
            small = omega arith;
            weighs = λ n xs here frame few.
                let past : count ≤ number = MatchOption-at_none (count ≤ number) (λ v. (number < count) × (v.0 ≡ get_or cells (slot_of block count + number) 0)) z (is few frame.few) in
                sym (ap (weight xs) (parameter_here file at h eh number e n here) ∙ weight_past xs number (let c = frame.counted in omega arith));
          }

      pub weigh_parameter : (v : Packed) → r ≡ Some v → (size : ℕ) → size ≡ v.0 % node_units → Weighs file cells at block count size
      weigh_parameter v z size es =
          record {
            small = omega arith;
            weighs = λ n xs here frame few.
                let (k, cell) = MatchOption-at_some (count ≤ number) (λ v. (number < count) × (v.0 ≡ get_or cells (slot_of block count + number) 0)) v z (is few frame.few) in
                es ∙ parameter_size frame number v.0 k cell ∙ sym (ap (weight xs) (parameter_here file at h eh number e n here));
          }

-- the terms that are left from a place on, of the term at the first
pub record Left (file : List ℕ) (at : ℕ) (b : Term) (xs : Terms) (next need sum : ℕ) : Type 0 where
  pub terms : Terms
  pub here : NodesAt file next (flats terms)
  pub many : countᵗ terms ≡ need
  pub behind : next + 4 * nodes_all terms ≡ at + 4 * nodes b
  pub size : sum + weights xs (flats terms) ≡ nodes (put xs b)

-- while a term is measured
pub record Measuring (file cells : List ℕ) (at block count next need sum : ℕ) : Type 0 where
  pub needs : need ≤ 64 * next + 1
  pub sums : sum ≤ 2048 * next
  pub left : (b : Term) (xs : Terms) → NodesAt file at (flat b) → Frame file cells block count xs → block < block_units → Left file at b xs next need sum

weights_one : (xs : Terms) (b : Term) → weights xs (flats (b ∷ᵗ []ᵗ)) ≡ nodes (put xs b)
unfolding flats
weights_one xs b = ap (weights xs) (append-nil (flat b)) ∙ weights_flat xs b

weights_next : (xs : Terms) (h : Head) (us ts : Terms) → weights xs (flats (node h us ∷ᵗ ts)) ≡ weight xs h + weights xs (flats (us ++ᵗ ts))
unfolding weights flats
weights_next xs h us ts = ap (λ l. weight xs h + weights xs l) (sym (flats_append us ts))

weights_none : (xs ts : Terms) → ts ≡ []ᵗ → (nodes_all ts ≡ 0) × (weights xs (flats ts) ≡ 0)
unfolding nodes_all flats weights
weights_none xs ts e = (ap nodes_all e, ap (λ (us : Terms). weights xs (flats us)) e)

pub nodes_near : (file : List ℕ) (p : ℕ) (ts : Terms) → 0 < countᵗ ts → NodesAt file p (flats ts) → p < place_units
unfolding countᵗ
nodes_near file p []ᵗ k w = absurd (omega arith)
nodes_near file p (node x us ∷ᵗ ts) k w = let (a, b) = at_next file p x us ts w in a.near

pub measure_start : (file cells : List ℕ) (at block count : ℕ) → Measuring file cells at block count at 1 0
unfolding countᵗ nodes_all
measure_start file cells at block count =
    record {
      needs = omega arith;
      sums = omega arith;
      left = λ b xs here frame few.
          record { terms = b ∷ᵗ []ᵗ; here = at_one file at b here; many = refl; behind = omega arith; size = let e = weights_one xs b in omega arith };
    }

-- one node is passed: the terms that are left then
module _ {file cells : List ℕ} {next block count : ℕ} {xs : Terms} (frame : Frame file cells block count xs) (few : block < block_units) (v arguments : ℕ) (weighs : Weighs file cells next block count v) (ea : arguments ≡ byte file (next + 3)) where
  pass : (ts : Terms) → NodesAt file next (flats ts) → 0 < countᵗ ts
      → (us : Terms) × NodesAt file (next + 4) (flats us) × (suc (countᵗ us) ≡ countᵗ ts + arguments) × (suc (nodes_all us) ≡ nodes_all ts) × (v + weights xs (flats us) ≡ weights xs (flats ts))
  unfolding countᵗ nodes
  pass []ᵗ here p = absurd (omega arith)
  pass (node h us ∷ᵗ ts) here p =
      let (x, rest) = at_next file next h us ts here in
      let c = count_append us ts in
      let n = nodes_append us ts in
      let k = x.count_is in
      let w = weighs.weighs (record { head = h; count = countᵗ us }) xs x frame few in
      let s = weights_next xs h us ts in
      (us ++ᵗ ts, rest, omega arith, omega arith, omega arith)

module _ {file cells : List ℕ} {at block count next need sum : ℕ} (go : Measuring file cells at block count next need sum) where
  pub measure_done : need ≡ 0 → Measures file cells at block count (record { next = next; nodes = sum })
  measure_done z =
      record {
        measures = λ b xs here frame few.
            let w = go.left b xs here frame few in
            let (n, m) = weights_none xs w.terms (none_left w.terms (w.many ∙ z)) in
            (omega (arith, w.behind), omega (arith, w.size));
      }

  pub measure_far : place_units ≤ next → 0 < need → Measures file cells at block count (record { next = next; nodes = sum })
  measure_far h p =
      record {
        measures = λ b xs here frame few.
            let w = go.left b xs here frame few in
            let f = nodes_near file next w.terms (omega (arith, w.many)) w.here in
            absurd (omega arith);
      }

  pub measure_next : 0 < need → (v arguments : ℕ) → Weighs file cells next block count v → arguments ≡ byte file (next + 3) → arguments < 256 → (next' need' sum' : ℕ) → next' ≡ next + 4 → need' ≡ need - 1 + arguments → sum' ≡ sum + v
      → Measuring file cells at block count next' need' sum'
  measure_next p v arguments weighs ea small next' need' sum' e₁ e₂ e₃ =
      record {
        needs = omega (arith, go.needs);
        sums = omega (arith, go.sums, weighs.small);
        left = λ b xs here frame few.
            let w = go.left b xs here frame few in
            let (us, rest, c, n, s) = pass frame few v arguments weighs ea w.terms w.here (omega (arith, w.many)) in
            record {
              terms = us;
              here = subst (λ q. NodesAt file q (flats us)) (sym e₁) rest;
              many = omega (arith, w.many);
              behind = omega (arith, w.behind);
              size = omega (arith, w.size);
            };
      }

-- a node alone
module _ {file cells : List ℕ} {at block count : ℕ} where
  pub alone_far : place_units ≤ at → Measures file cells at block count (record { next = at; nodes = 0 })
  alone_far h = measure_far (measure_start file cells at block count) h (omega arith)

  pub alone_done : (v arguments : ℕ) → Weighs file cells at block count v → arguments ≡ byte file (at + 3) → arguments ≡ 0 → Measures file cells at block count (record { next = at + 4; nodes = v })
  alone_done v arguments weighs e z = measure_done (measure_next (measure_start file cells at block count) (omega arith) v arguments weighs e (omega arith) (at + 4) 0 v refl (omega arith) (omega arith)) refl

pub some_term : (b : Term) → 0 < countᵗ (b ∷ᵗ []ᵗ)
unfolding countᵗ
some_term b = omega arith

pub applied_none : (t : Term) → applied t []ᵗ ≡ t
unfolding applied
applied_none (node y us) = ap (node y) (append_nilᵗ us)

-- a parameter alone stands for its term
pub put_alone : (number : ℕ) (h : Head) (ts : Terms) → h ≡ par number → ts ≡ []ᵗ → (xs : Terms) → put xs (node h ts) ≡ term_at xs number (node (par number) []ᵗ)
unfolding put
put_alone number h ts p n xs = ap₂ (λ (y : Head) (us : Terms). put xs (node y us)) p n ∙ applied_none (term_at xs number (node (par number) []ᵗ))

put_parameter : (file : List ℕ) (at : ℕ) (h : Code) → head_as h ≡ head_by (byte file at) (word file (at + 1)) → (number : ℕ) → h ≡ Parameter number → (arguments : ℕ) → arguments ≡ byte file (at + 3) → arguments ≡ 0 → (b : Term) (xs : Terms) → NodesAt file at (flat b)
    → put xs b ≡ term_at xs number (node (par number) []ᵗ)
put_parameter file at h eh number e arguments ea z (node x ts) xs here =
    let (a, c) = at_node file at x ts here in
    put_alone number x ts (parameter_here file at h eh number e (record { head = x; count = countᵗ ts }) a) (none_left ts (sym a.count_is ∙ sym ea ∙ z)) xs

-- the closure of a term
module _ {file cells : List ℕ} {at block count size : ℕ} where
  pub close_packed : {r : ℕ} → Packs at block count size r → Closes file cells at block count size r
  close_packed {r} p =
      record {
        closes = λ top b xs here frame below small full fits.
            let few = frame.few in
            let near = nodes_near file at (b ∷ᵗ []ᵗ) (some_term b) (at_one file at b here) in
            closure_from r block count at size (p.block_in (omega arith) (omega arith)) (p.count_in_law (omega arith)) (p.place_in_law near) (p.size_in fits) b xs here frame below full;
      }

  -- a parameter alone has its own closure
  pub close_parameter : (h : Code) → head_as h ≡ head_by (byte file at) (word file (at + 1)) → (number : ℕ) → h ≡ Parameter number → (arguments : ℕ) → arguments ≡ byte file (at + 3) → arguments ≡ 0
      → (packed : Packed) → Packs at block count size packed.0 → (r : Option Packed) → IsClosureAt cells block count number r → (v : Packed) → v ≡ unwrap_or r packed → Closes file cells at block count size v.0
  close_parameter h eh number e arguments ea z packed p None is v ev = subst (λ (u : Packed). Closes file cells at block count size u.0) (sym ev) (close_packed p)
  close_parameter h eh number e arguments ea z packed p (Some w) is v ev =
      subst (λ (u : Packed). Closes file cells at block count size u.0) (sym ev)
      (record {
        closes = λ top b xs here frame below small full fits.
            let l : block ≤ top = omega arith in
            let (k, cell) = is (omega arith) frame.few in
            closure_up l (subst (Closure file cells block w.0) (sym (put_parameter file at h eh number e arguments ea z b xs here)) (parameter_closure frame number w.0 k cell));
      })

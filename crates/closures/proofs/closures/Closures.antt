-- Closures and frames: what they keep.
use Prim.Native.Nat.{ℕ, ◌+◌, ◌*◌, ◌<◌, ◌≤◌}
use native.Mathlib.Omega.{arith}
use mathlib.Core.Path.{◌≡◌, refl, sym, subst, ◌∙◌}
use mathlib.Core.List.{List}
use lib.ListN.{get_or}
use Rattle.scheme.specs.Terms.{Term, Terms, []ᵗ, countᵗ, term_at, nodes, put}
use Rattle.scheme.specs.Prefix.{flat}
use Rattle.closures.specs.closures.Nodes.{NodesAt}
use Rattle.closures.specs.closures.Closures.{block_in_spec, count_in, place_in, size_in_spec, slot_of, lone, Closure, closure, Frame}

-- a closure stays one while the cells below `top` blocks stay
pub closure_kept : {file cells cells' : List ℕ} (top : ℕ) → ((s : ℕ) → s < top * 8 → get_or cells' s 0 ≡ get_or cells s 0) → {m v : ℕ} {t : Term} → m ≤ top → Closure file cells m v t → Closure file cells' m v t
closure_kept {file} {cells} {cells'} top same h (closure {m} {v} {t} b xs below here counted few size is f) =
    closure b xs below here counted few size is
    (λ i k. subst (λ w. Closure file cells' (block_in_spec v) w (term_at xs i lone)) (sym (same (slot_of (block_in_spec v) (count_in v) + i) (omega arith))) (closure_kept top same (omega arith) (f i k)))

module _ {file cells : List ℕ} where
  -- a bound on the block may be larger
  pub closure_up : {m m' v : ℕ} {t : Term} → m ≤ m' → Closure file cells m v t → Closure file cells m' v t
  closure_up {m} {m'} {v} h (closure b xs below here counted few size is f) = let less : block_in_spec v < m' = omega arith in closure b xs less here counted few size is f

  pub closure_size : {m v : ℕ} {t : Term} → Closure file cells m v t → size_in_spec v ≡ nodes t
  closure_size (closure b xs below here counted few size is f) = size

  -- what a closure is made of
  pub closure_parts : {m v : ℕ} {t : Term} → Closure file cells m v t
      → (b : Term) × (xs : Terms) × (block_in_spec v < m) × NodesAt file (place_in v) (flat b) × Frame file cells (block_in_spec v) (count_in v) xs × (t ≡ put xs b)
  closure_parts (closure b xs below here counted few size is f) = (b, xs, below, here, record { counted = counted; few = few; closures = f }, is)

  pub closure_from : (v block count at size : ℕ) → block_in_spec v ≡ block → count_in v ≡ count → place_in v ≡ at → size_in_spec v ≡ size → {top : ℕ} (b : Term) (xs : Terms) → NodesAt file at (flat b) → Frame file cells block count xs → block < top → size ≡ nodes (put xs b)
      → Closure file cells top v (put xs b)
  closure_from v block count at size eb ec ep es {top} b xs here frame below full =
      let less : block_in_spec v < top = omega arith in
      closure b xs less (subst (λ p. NodesAt file p (flat b)) (sym ep) here) (frame.counted ∙ sym ec) (omega (arith, frame.few)) (es ∙ full) refl
      (λ i h. subst (λ k. Closure file cells k (get_or cells (slot_of k (count_in v) + i) 0) (term_at xs i lone)) (sym eb)
      (subst (λ k. Closure file cells block (get_or cells (slot_of block k + i) 0) (term_at xs i lone)) (sym ec) (frame.closures i (omega arith))))

-- a frame stays one while the cells below `top` blocks stay
pub frame_kept : {file cells cells' : List ℕ} (top : ℕ) → ((s : ℕ) → s < top * 8 → get_or cells' s 0 ≡ get_or cells s 0) → {block count : ℕ} {xs : Terms} → block < top → Frame file cells block count xs → Frame file cells' block count xs
frame_kept {file} {cells} {cells'} top same {block} {count} {xs} h frame =
    record {
      counted = frame.counted;
      few = frame.few;
      closures = λ i k.
          let few = frame.few in
          subst (λ w. Closure file cells' block w (term_at xs i lone)) (sym (same (slot_of block count + i) (omega arith))) (closure_kept top same (omega arith) (frame.closures i k));
    }

-- no terms
pub frame_none : {file cells : List ℕ} (block : ℕ) → Frame file cells block 0 []ᵗ
unfolding countᵗ
frame_none block = record { counted = refl; few = omega arith; closures = λ i h. absurd (omega arith) }

-- The closures of terms that stand one after another, written one by one; their nodes summed.
use Prim.Native.Nat.{ℕ, suc, ◌+◌, ◌*◌, ◌<◌, ◌≤◌}
use native.Mathlib.Omega.{arith}
use mathlib.Core.Path.{◌≡◌, refl, sym, ap, subst, ◌∙◌}
use mathlib.Core.Logic.{⊎_elim}
use mathlib.Core.List.{List}
use native.Mathlib.Nat.{le_of_suc-le-suc, eq-or-lt_of_le}
use lib.ListN.{length, get_or, set, length-set}
use lib.Seq.{get_or-set_same, get_or-set_other}
use Rattle.scheme.specs.Terms.{Term, Terms, ◌∷ᵗ◌, term_at, nodes, nodes_all, put, puts}
use Rattle.scheme.specs.Prefix.{dropᵗ, flats}
use Rattle.closures.specs.closures.Nodes.{NodesAt}
use Rattle.closures.specs.closures.Closures.{lone, Closure, Frame}
use Rattle.closures.specs.closures.Promises.{Measures, Capped, Adds, Closes, Spreadable, Spreads}
use Rattle.closures.specs.declared.closures.Measured.{Measured}
use Rattle.closures.proofs.closures.Trees.{drop_next, nodes_at, count_puts, puts_at, nodes_drop, nodes_dropped}
use Rattle.closures.proofs.closures.Nodes.{at_terms}
use Rattle.closures.proofs.closures.Closures.{closure_kept, frame_kept}
use Rattle.closures.proofs.closures.Capping.{capped_same, capped_as}
use Rattle.index.specs.layout.Layout.{node_units}

-- the first i terms have their closures and their nodes are summed, the others stand from a place on
pub record Halfway (file cells : List ℕ) (low top : ℕ) (ts xs : Terms) (i next total : ℕ) : Type 0 where
  pub here : NodesAt file next (flats (dropᵗ i ts))
  pub sum : ℕ
  pub summed : Capped total sum
  pub whole : sum + nodes_all (puts xs (dropᵗ i ts)) ≡ nodes_all (puts xs ts)
  pub done : nodes_all (puts xs ts) < node_units → (j : ℕ) → j < i → Closure file cells top (get_or cells (low + j) 0) (term_at (puts xs ts) j lone)

-- while closures are written
pub record Spreading (file cells₀ : List ℕ) (at m block count low : ℕ) (cells : List ℕ) (i next total : ℕ) : Type 0 where
  pub up_to : i ≤ m
  pub long : length cells ≡ length cells₀
  pub below : (s : ℕ) → s < low → get_or cells s 0 ≡ get_or cells₀ s 0
  pub above : (s : ℕ) → low + i ≤ s → get_or cells s 0 ≡ get_or cells₀ s 0
  pub halfway : (top : ℕ) (ts xs : Terms) → Spreadable file cells₀ at m block count low top ts xs → Halfway file cells low top ts xs i next total

pub spread_start : (file cells : List ℕ) (at m block count low : ℕ) → Spreading file cells at m block count low cells 0 at 0
unfolding dropᵗ
spread_start file cells at m block count low =
    record {
      up_to = omega arith;
      long = refl;
      below = λ s h. refl;
      above = λ s h. refl;
      halfway = λ top ts xs p. record { here = p.here; sum = 0; summed = capped_same 0 0 refl; whole = omega arith; done = λ f j h. absurd (omega arith) };
    }

module _ {file cells₀ : List ℕ} {at m block count low : ℕ} {cells : List ℕ} {i next total : ℕ} (w : Spreading file cells₀ at m block count low cells i next total) where
  pub spread_end : m ≤ i → Spreads file cells₀ cells at m block count low total
  spread_end h =
      record {
        long = w.long;
        below = w.below;
        above = λ s k. w.above s (omega (arith, w.up_to));
        total = λ top ts xs p.
            let g = w.halfway top ts xs p in
            capped_as g.sum (nodes_all (puts xs ts)) (let z = nodes_dropped xs ts i (omega (arith, p.counted)) in omega (arith, g.whole)) g.summed;
        closed = λ top ts xs p f j k. (w.halfway top ts xs p).done f j (omega arith);
      }

  module _ (h : i < m) (room : low + i < length cells) (measured : Measured) (v : ℕ) (measures : Measures file cells next block count measured) (closes : Closes file cells next block count measured.nodes v) where
    same_other : (s : ℕ) → (s ≡ low + i → ⊥) → get_or (set cells (low + i) v) s 0 ≡ get_or cells s 0
    same_other s k = get_or-set_other cells (low + i) s v 0 k

    -- the term at i and its closure
    module _ (top : ℕ) (ts xs : Terms) (p : Spreadable file cells₀ at m block count low top ts xs) where
      frame_here : Frame file cells block count xs
      frame_here = frame_kept top (λ s k. w.below s (omega (arith, p.high))) p.behind p.frame

      term_here : NodesAt file next (flats (term_at ts i lone ∷ᵗ dropᵗ (suc i) ts))
      term_here = subst (λ us. NodesAt file next (flats us)) (drop_next ts i lone (omega (arith, p.counted))) (w.halfway top ts xs p).here

      measured_here : (measured.next ≡ next + 4 * nodes (term_at ts i lone)) × (measured.nodes ≡ nodes (put xs (term_at ts i lone)))
      measured_here = measures.measures (term_at ts i lone) xs (at_terms file next (term_at ts i lone) (dropᵗ (suc i) ts) _ refl term_here).0 frame_here (omega (arith, p.behind, p.few))

      fits_here : nodes_all (puts xs ts) < node_units → measured.nodes < node_units
      fits_here f =
          let n = nodes_at (puts xs ts) i lone (omega (arith, count_puts xs ts, p.counted)) in
          let e = ap nodes (puts_at xs ts i lone lone (omega (arith, p.counted))) in
          omega (arith, measured_here.1)

      closed_here : nodes_all (puts xs ts) < node_units → Closure file cells top v (term_at (puts xs ts) i lone)
      closed_here f =
          subst (Closure file cells top v) (sym (puts_at xs ts i lone lone (omega (arith, p.counted))))
          (closes.closes top (term_at ts i lone) xs (at_terms file next (term_at ts i lone) (dropᵗ (suc i) ts) _ refl term_here).0 frame_here p.behind p.few measured_here.1 (fits_here f))

      -- the new cell leaves closures what they are
      closed_then : {u : ℕ} {t : Term} → Closure file cells top u t → Closure file (set cells (low + i) v) top u t
      closed_then c = closure_kept top (λ s k. same_other s (λ e. omega (arith, p.high))) (let l : top ≤ top = omega arith in l) c

      done_next : nodes_all (puts xs ts) < node_units → (j : ℕ) → j < suc i → Closure file (set cells (low + i) v) top (get_or (set cells (low + i) v) (low + j) 0) (term_at (puts xs ts) j lone)
      done_next f j k =
          ⊎_elim
          (λ (same : j ≡ i).
          subst (λ l. Closure file (set cells (low + i) v) top (get_or (set cells (low + i) v) (low + l) 0) (term_at (puts xs ts) l lone)) (sym same)
          (subst (λ u. Closure file (set cells (low + i) v) top u (term_at (puts xs ts) i lone)) (sym (get_or-set_same cells (low + i) v 0 room)) (closed_then (closed_here f))))
          (λ (less : j < i). subst (λ u. Closure file (set cells (low + i) v) top u (term_at (puts xs ts) j lone)) (sym (same_other (low + j) (λ e. omega arith))) (closed_then ((w.halfway top ts xs p).done f j less)))
          (eq-or-lt_of_le (le_of_suc-le-suc k))

    pub spread_next : (total' : ℕ) → Adds total measured.nodes total' → (i' : ℕ) → i' ≡ i + 1 → Spreading file cells₀ at m block count low (set cells (low + i) v) i' measured.next total'
    spread_next total' adds i' ei =
        record {
          up_to = omega arith;
          long = length-set cells (low + i) v ∙ w.long;
          below = λ s k. same_other s (λ e. omega arith) ∙ w.below s k;
          above = λ s k. same_other s (λ e. omega arith) ∙ w.above s (omega arith);
          halfway = λ top ts xs p.
              let e : suc i ≡ i' = omega arith in
              let g = w.halfway top ts xs p in
              let n = (measured_here top ts xs p).1 in
              subst (λ l. Halfway file (set cells (low + i) v) low top ts xs l measured.next total') e
              (record {
                here = (at_terms file next (term_at ts i lone) (dropᵗ (suc i) ts) measured.next (measured_here top ts xs p).0 (term_here top ts xs p)).1;
                sum = g.sum + measured.nodes;
                summed = adds g.sum measured.nodes g.summed (capped_same measured.nodes measured.nodes refl);
                whole = let d = nodes_drop xs ts i lone (omega (arith, p.counted)) in omega (arith, g.whole);
                done = done_next top ts xs p;
              });
        }

-- The arguments of a term gathered from the back: a parameter's own stand behind those of the term that it stands for.
-- Their nodes are summed, with one for the head.
use Prim.Native.Nat.{ℕ, ◌+◌, ◌-◌, ◌*◌, ◌/◌, ◌%◌, ◌<◌, ◌≤◌}
use native.Mathlib.Omega.{arith}
use mathlib.Core.Path.{◌≡◌, refl, sym, ap, subst, ◌∙◌}
use mathlib.Core.Bool.{Bool, true, false}
use mathlib.Core.Logic.{◌⊎◌, inl, inr, ⊎_elim}
use mathlib.Core.List.{List}
use borrow.Author.Tests.{ltb-true, ltb-false}
use lib.Dec.{ltb}
use lib.ListN.{length, get_or}
use Rattle.scheme.specs.Terms.{Head, con, nt, par, Term, node, Terms, []ᵗ, ◌∷ᵗ◌, ◌++ᵗ◌, countᵗ, term_at, nodes, nodes_all, applied, put, puts}
use Rattle.scheme.specs.Prefix.{flat, flats}
use Rattle.casefile.specs.Fields.{byte, word}
use Rattle.std.specs.Prelude.{Option, None, Some}
use Rattle.closures.specs.heads.Heads.{head_as}
use Rattle.closures.specs.declared.heads.Head.{Head as Code}
use Rattle.closures.specs.declared.heads.Head.TheVariants.{Constructor, Nonterminal, Parameter}
use Rattle.closures.specs.declared.closures.Closure.{Closure as Packed}
use Rattle.closures.specs.closures.Nodes.{head_by, NodeAt, NodesAt}
use Rattle.closures.specs.closures.Closures.{block_in_spec, slot_of, lone, Closure, Frame}
use Rattle.closures.specs.closures.Promises.{IsClosureAt, Capped, Adds, Spreadable, Spreads}
use Rattle.closures.proofs.closures.Trees.{count_append, nodes_append, append_assocᵗ, nodes_node, nodes_applied, nodes_put, count_puts, term_left, term_right, term_past}
use Rattle.closures.proofs.closures.Nodes.{at_node, at_one}
use Rattle.closures.proofs.closures.Closures.{closure_kept, closure_parts, frame_kept}
use Rattle.closures.proofs.closures.Capping.{capped_same, capped_as}
use Rattle.closures.proofs.closures.Measuring.{parameter_closure, applied_none, put_alone, nodes_near, some_term}
use Rattle.closures.specs.fronts.Fronts.{argumentsᵗ, Gatherable, IsFront, Gathers}
use Rattle.closures.specs.declared.fronts.Front.{Front}
use Rattle.index.specs.layout.Layout.{node_units, place_units, count_units, count_unit, block_unit}

-- a term with more arguments
arguments_applied : (t : Term) (us : Terms) → countᵗ (argumentsᵗ (applied t us)) ≡ countᵗ (argumentsᵗ t) + countᵗ us
unfolding argumentsᵗ applied
arguments_applied (node h ts) us = count_append ts us

applied_twice : (t : Term) (us vs : Terms) → applied (applied t us) vs ≡ applied t (us ++ᵗ vs)
unfolding applied
applied_twice (node h ts) us vs = ap (node h) (append_assocᵗ ts us vs)

-- a node of a body has its own arguments and perhaps more
arguments_put : (xs : Terms) (h : Head) (us : Terms) → countᵗ us ≤ countᵗ (argumentsᵗ (put xs (node h us)))
unfolding argumentsᵗ put
arguments_put xs (con c) us = let e = count_puts xs us in omega arith
arguments_put xs (nt f) us = let e = count_puts xs us in omega arith
arguments_put xs (par i) us = let e = count_puts xs us in let a = arguments_applied (term_at xs i (node (par i) []ᵗ)) (puts xs us) in omega arith

-- what a head stands for, then its own arguments, then others
put_front : (xs : Terms) (h : Head) (us vs : Terms) → applied (put xs (node h us)) vs ≡ applied (put xs (node h []ᵗ)) (puts xs us ++ᵗ vs)
unfolding put applied ◌++ᵗ◌
put_front xs (con c) us vs = refl
put_front xs (nt f) us vs = refl
put_front xs (par i) us vs =
    applied_twice (term_at xs i (node (par i) []ᵗ)) (puts xs us) vs ∙ ap (λ t. applied t (puts xs us ++ᵗ vs)) (sym (applied_none (term_at xs i (node (par i) []ᵗ))))

-- a head that stands for itself
applied_alone : (h : Head) (us : Terms) → applied (node h []ᵗ) us ≡ node h us
unfolding applied ◌++ᵗ◌
applied_alone h us = refl

itself_other : (h : Code) → ((i : ℕ) → h ≡ Parameter i → ⊥) → (xs : Terms) → put xs (node (head_as h) []ᵗ) ≡ node (head_as h) []ᵗ
unfolding put
itself_other (Constructor c) k xs = refl
itself_other (Nonterminal f) k xs = refl
itself_other (Parameter i) k xs = absurd (k i refl)

itself_past : (h : Head) (number : ℕ) → h ≡ par number → (xs : Terms) → countᵗ xs ≤ number → put xs (node h []ᵗ) ≡ node h []ᵗ
itself_past h number e xs k = put_alone number h []ᵗ e refl xs ∙ term_past xs number (node (par number) []ᵗ) k ∙ ap (λ y. node y []ᵗ) (sym e)

-- block `top` holds closures for the last arguments of a term behind its first `free` cells; `total` has their nodes and one
pub record Holds (file cells : List ℕ) (top : ℕ) (t : Term) (free total : ℕ) (ts : Terms) : Type 0 where
  pub many : countᵗ ts + free ≡ 8
  pub summed : Capped total (1 + nodes_all ts)
  pub closures : nodes t < node_units → (j : ℕ) → j + free < 8 → Closure file cells top (get_or cells (top * 8 + free + j) 0) (term_at ts j lone)

holds_frame : {file cells : List ℕ} {top : ℕ} {t : Term} {free total : ℕ} {ts : Terms} (count : ℕ) → count ≡ 8 - free → Holds file cells top t free total ts → nodes t < node_units → Frame file cells top count ts
holds_frame {file} {cells} {top} {t} {free} {total} {ts} count e w f =
    record {
      counted = omega (arith, w.many);
      few = omega arith;
      closures = λ i h.
          let s : top * 8 + free + i ≡ slot_of top count + i = omega (arith, w.many) in
          subst (λ k. Closure file cells top (get_or cells k 0) (term_at ts i lone)) s (w.closures f i (omega arith));
    }

-- others before them
holds_more : {file cells cells' : List ℕ} {top : ℕ} {t : Term} {free free' m total own total' : ℕ} (us ts : Terms) → countᵗ us ≡ m → free ≡ free' + m → Holds file cells top t free total ts → Capped own (nodes_all us) → Adds total own total'
    → ((s : ℕ) → s < top * 8 + free' → get_or cells' s 0 ≡ get_or cells s 0) → ((s : ℕ) → top * 8 + free' + m ≤ s → get_or cells' s 0 ≡ get_or cells s 0)
    → (nodes t < node_units → (j : ℕ) → j < m → Closure file cells' top (get_or cells' (top * 8 + free' + j) 0) (term_at us j lone)) → Holds file cells' top t free' total' (us ++ᵗ ts)
holds_more {file} {cells} {cells'} {top} {t} {free} {free'} {m} {total} {own} {total'} us ts eu ef w sized adds below above new =
    record {
      many = omega (arith, w.many, count_append us ts);
      summed = capped_as (1 + nodes_all ts + nodes_all us) (1 + nodes_all (us ++ᵗ ts)) (omega (arith, nodes_append us ts)) (adds (1 + nodes_all ts) (nodes_all us) w.summed sized);
      closures = λ f j h. ⊎_elim (λ (l : j < m). first f j l) (λ (l : (k : ℕ) × (j ≡ countᵗ us + k)). second f j h l.0 l.1) (split j);
    }
  where
    first : nodes t < node_units → (j : ℕ) → j < m → Closure file cells' top (get_or cells' (top * 8 + free' + j) 0) (term_at (us ++ᵗ ts) j lone)
    first f j l = subst (Closure file cells' top (get_or cells' (top * 8 + free' + j) 0)) (sym (term_left us ts j lone (omega arith))) (new f j l)

    second : nodes t < node_units → (j : ℕ) → j + free' < 8 → (k : ℕ) → j ≡ countᵗ us + k → Closure file cells' top (get_or cells' (top * 8 + free' + j) 0) (term_at (us ++ᵗ ts) j lone)
    second f j h k e =
        let c : Closure file cells' top (get_or cells (top * 8 + free + k) 0) (term_at ts k lone) = closure_kept top (λ s b. below s (omega arith)) (let l : top ≤ top = omega arith in l) (w.closures f k (omega arith)) in
        let p : top * 8 + free + k ≡ top * 8 + free' + j = omega arith in
        subst (Closure file cells' top (get_or cells' (top * 8 + free' + j) 0)) (sym (term_right us ts j k lone e))
        (subst (λ v. Closure file cells' top v (term_at ts k lone)) (ap (λ s. get_or cells s 0) p ∙ sym (above (top * 8 + free' + j) (omega arith))) c)

    split : (j : ℕ) → (j < m) ⊎ ((k : ℕ) × (j ≡ countᵗ us + k))
    split j = pick (ltb j m) refl
      where
        pick : (b : Bool) → ltb j m ≡ b → (j < m) ⊎ ((k : ℕ) × (j ≡ countᵗ us + k))
        pick true e = inl (ltb-true j m e)
        pick false e = let l = ltb-false j m e in inr (j - m, omega arith)

-- a term: a node of a body with a frame, and closures of the arguments behind
pub record Gathered (file cells : List ℕ) (top : ℕ) (t : Term) (free place under known total : ℕ) : Type 0 where
  pub body : Term
  pub params : Terms
  pub behind : Terms
  pub here : NodesAt file place (flat body)
  pub frame : Frame file cells under known params
  pub lower : under < top
  pub holds : Holds file cells top t free total behind
  pub is : t ≡ applied (put params body) behind

-- while arguments are gathered
pub record Gathering (file cells₀ : List ℕ) (at block count top : ℕ) (cells : List ℕ) (free place under known total : ℕ) : Type 0 where
  pub long : length cells ≡ length cells₀
  pub kept : (s : ℕ) → s < top * 8 → get_or cells s 0 ≡ get_or cells₀ s 0
  pub room : free ≤ 8
  pub gathered : (b : Term) (xs : Terms) → Gatherable file cells₀ at block count top b xs → Gathered file cells top (put xs b) free place under known total

holds_none : (file cells : List ℕ) (top : ℕ) (t : Term) → Holds file cells top t 8 1 []ᵗ
unfolding countᵗ nodes_all
holds_none file cells top t = record { many = refl; summed = capped_same 1 1 refl; closures = λ f j h. absurd (omega arith) }

pub gather_start : (file cells : List ℕ) (at block count top : ℕ) → Gathering file cells at block count top cells 8 at block count 1
gather_start file cells at block count top =
    record {
      long = refl;
      kept = λ s h. refl;
      room = omega arith;
      gathered = λ b xs p.
          record { body = b; params = xs; behind = []ᵗ; here = p.here; frame = p.frame; lower = p.behind; holds = holds_none file cells top (put xs b); is = sym (applied_none (put xs b)) };
    }

-- there is no such term
gather_never : {file cells cells' : List ℕ} {at block count top : ℕ} {r : Option Front} → length cells' ≡ length cells → ((s : ℕ) → s < top * 8 → get_or cells' s 0 ≡ get_or cells s 0)
    → ((b : Term) (xs : Terms) → Gatherable file cells at block count top b xs → ⊥) → Gathers file cells cells' at block count top r
gather_never long kept none = record { long = long; kept = kept; total = λ b xs p. absurd (none b xs p); gathers = λ b xs p. absurd (none b xs p) }

-- a node with its arguments apart
record Opened (file cells : List ℕ) (top : ℕ) (t : Term) (free place under known total : ℕ) : Type 0 where
  pub head : Head
  pub own : Terms
  pub params : Terms
  pub behind : Terms
  pub node_at : NodeAt file place (record { head = head; count = countᵗ own })
  pub here : NodesAt file (place + 4) (flats own)
  pub frame : Frame file cells under known params
  pub lower : under < top
  pub holds : Holds file cells top t free total behind
  pub is : t ≡ applied (put params (node head own)) behind

opened : {file cells : List ℕ} {top : ℕ} {t : Term} {free place under known total : ℕ} (body : Term) (params behind : Terms) → NodesAt file place (flat body) → Frame file cells under known params → under < top → Holds file cells top t free total behind
    → t ≡ applied (put params body) behind → Opened file cells top t free place under known total
opened {file} {cells} {top} {t} {free} {place} {under} {known} {total} (node h us) params behind here frame lower holds is =
    let (n, rest) = at_node file place h us here in
    record { head = h; own = us; params = params; behind = behind; node_at = n; here = rest; frame = frame; lower = lower; holds = holds; is = is }

open_here : {file cells : List ℕ} {top : ℕ} {t : Term} {free place under known total : ℕ} → Gathered file cells top t free place under known total → Opened file cells top t free place under known total
open_here w = opened w.body w.params w.behind w.here w.frame w.lower w.holds w.is

module _ {file cells₀ : List ℕ} {at block count₀ top : ℕ} {cells : List ℕ} {free place under known total : ℕ} (w : Gathering file cells₀ at block count₀ top cells free place under known total) where
  -- past the last place
  pub gather_far : {r : Option Front} → place_units ≤ place → Gathers file cells₀ cells at block count₀ top r
  gather_far h =
      gather_never w.long w.kept
      (λ b xs p.
      let g = w.gathered b xs p in
      let f = nodes_near file place (g.body ∷ᵗ []ᵗ) (some_term g.body) (at_one file place g.body g.here) in
      omega arith)

  module _ (m : ℕ) (em : m ≡ byte file (place + 3)) where
    -- the arguments here are no more than there is room for
    fits_block : (b : Term) (xs : Terms) → Gatherable file cells₀ at block count₀ top b xs → m ≤ free
    fits_block b xs p =
        let g = open_here (w.gathered b xs p) in
        let a = ap (λ t. countᵗ (argumentsᵗ t)) g.is in
        let c = arguments_applied (put g.params (node g.head g.own)) g.behind in
        let d = arguments_put g.params g.head g.own in
        omega (arith, p.narrow, g.node_at.count_is, g.holds.many)

    pub gather_over : {r : Option Front} → free < m → Gathers file cells₀ cells at block count₀ top r
    gather_over h = gather_never w.long w.kept (λ b xs p. let f = fits_block b xs p in omega arith)

    module _ (free' : ℕ) (h : m ≤ free) (ef : free' ≡ free - m) {cells' : List ℕ} (sum total' : ℕ) (spreads : Spreads file cells cells' (place + 4) m under known (top * 8 + free') sum) (adds : Adds total sum total') where
      kept_then : (s : ℕ) → s < top * 8 → get_or cells' s 0 ≡ get_or cells₀ s 0
      kept_then s k = spreads.below s (omega arith) ∙ w.kept s k

      kept_here : (s : ℕ) → s < top * 8 → get_or cells' s 0 ≡ get_or cells s 0
      kept_here s k = spreads.below s (omega arith)

      -- the node's arguments have closures before those behind
      module _ (b : Term) (xs : Terms) (p : Gatherable file cells₀ at block count₀ top b xs) where
        now : Opened file cells top (put xs b) free place under known total
        now = open_here (w.gathered b xs p)

        own : Terms
        own = puts now.params now.own

        own_fits : nodes (put xs b) < node_units → nodes_all own < node_units
        unfolding own
        own_fits f =
            let n = ap nodes now.is in
            let a = nodes_applied (put now.params (node now.head now.own)) now.behind in
            let c = nodes_put now.params now.head now.own in
            omega arith

        own_count : countᵗ now.own ≡ m
        own_count = sym now.node_at.count_is ∙ sym em

        own_spread : Spreadable file cells (place + 4) m under known (top * 8 + free') top now.own now.params
        unfolding own
        own_spread =
            record {
              here = now.here;
              counted = own_count;
              frame = now.frame;
              behind = now.lower;
              few = let f = p.few in omega arith;
              high = omega arith;
              room = omega (arith, p.room, w.long, w.room);
            }

        holds_now : Holds file cells' top (put xs b) free' total' (own ++ᵗ now.behind)
        unfolding own
        holds_now =
            holds_more own now.behind (count_puts now.params now.own ∙ own_count) (omega arith) now.holds (spreads.total top now.own now.params own_spread) adds
            spreads.below spreads.above (λ f. spreads.closed top now.own now.params own_spread (own_fits f))

        is_now : put xs b ≡ applied (put now.params (node now.head []ᵗ)) (own ++ᵗ now.behind)
        unfolding own
        is_now = now.is ∙ put_front now.params now.head now.own now.behind

        frame_now : Frame file cells' under known now.params
        frame_now = frame_kept top kept_here now.lower now.frame

        module _ (hd : Code) (eh : head_as hd ≡ head_by (byte file place) (word file (place + 1))) where
          head_now : head_as hd ≡ now.head
          head_now = eh ∙ now.node_at.head_is

          -- a head that stands for itself
          module _ (e : put now.params (node (head_as hd) []ᵗ) ≡ node (head_as hd) []ᵗ) where
            itself : put xs b ≡ node now.head (own ++ᵗ now.behind)
            itself =
                is_now ∙ ap (λ t. applied t (own ++ᵗ now.behind)) (subst (λ y. put now.params (node y []ᵗ) ≡ node y []ᵗ) head_now e) ∙ applied_alone now.head (own ++ᵗ now.behind)

            total_itself : Capped total' (nodes (put xs b))
            total_itself = capped_as (1 + nodes_all (own ++ᵗ now.behind)) (nodes (put xs b)) (let n = ap nodes itself ∙ nodes_node now.head (own ++ᵗ now.behind) in omega arith) holds_now.summed

            front_itself : (count : ℕ) → count ≡ 8 - free' → nodes (put xs b) < node_units → IsFront file cells' top (record { head = hd; count = count; nodes = total' }) (put xs b)
            front_itself count ec f = record { head = now.head; arguments = own ++ᵗ now.behind; is = itself; head_is = head_now; frame = holds_frame count ec holds_now f }

        closure_now : (number : ℕ) → par number ≡ head_by (byte file place) (word file (place + 1)) → (v : Packed) → IsClosureAt cells' under known number (Some v) → Closure file cells' under v.0 (put now.params (node now.head []ᵗ))
        closure_now number ep v is =
            let (l, cell) = is (let f = p.few in let g = now.lower in omega arith) frame_now.few in
            subst (Closure file cells' under v.0) (sym (put_alone number now.head []ᵗ (sym (ep ∙ now.node_at.head_is)) refl now.params)) (parameter_closure frame_now number v.0 l cell)

      module _ (hd : Code) (eh : head_as hd ≡ head_by (byte file place) (word file (place + 1))) where
        module _ (count : ℕ) (ec : count ≡ 8 - free') where
          gather_itself : ((b : Term) (xs : Terms) (p : Gatherable file cells₀ at block count₀ top b xs) → put (now b xs p).params (node (head_as hd) []ᵗ) ≡ node (head_as hd) []ᵗ)
              → Gathers file cells₀ cells' at block count₀ top (Some (record { head = hd; count = count; nodes = total' }))
          gather_itself e = record { long = spreads.long ∙ w.long; kept = kept_then; total = λ b xs p. total_itself b xs p hd eh (e b xs p); gathers = λ b xs p. front_itself b xs p hd eh (e b xs p) count ec }

          pub gather_head : ((i : ℕ) → hd ≡ Parameter i → ⊥) → Gathers file cells₀ cells' at block count₀ top (Some (record { head = hd; count = count; nodes = total' }))
          gather_head k = gather_itself (λ b xs p. itself_other hd k (now b xs p).params)

      -- a parameter in front
      module _ (number : ℕ) (ep : par number ≡ head_by (byte file place) (word file (place + 1))) (r : Option Packed) (is : IsClosureAt cells' under known number r) where
        pub gather_free : r ≡ None → (count : ℕ) → count ≡ 8 - free' → Gathers file cells₀ cells' at block count₀ top (Some (record { head = Parameter number; count = count; nodes = total' }))
        gather_free er count ec =
            gather_itself (Parameter number) ep count ec
            (λ b xs p.
            let frame = frame_now b xs p in
            let past : known ≤ number = subst (IsClosureAt cells' under known number) er is (let f = p.few in let g = (now b xs p).lower in omega arith) frame.few in
            itself_past (par number) number refl (now b xs p).params (let c = frame.counted in omega arith))

        module _ (v : Packed) (er : r ≡ Some v) where
          closure_then : (b : Term) (xs : Terms) (p : Gatherable file cells₀ at block count₀ top b xs) → Closure file cells' under v.0 (put (now b xs p).params (node (now b xs p).head []ᵗ))
          closure_then b xs p = closure_now b xs p number ep v (subst (IsClosureAt cells' under known number) er is)

          pub gather_rising : under ≤ v.0 / block_unit → Gathers file cells₀ cells' at block count₀ top None
          gather_rising z =
              gather_never (spreads.long ∙ w.long) kept_then
              (λ b xs p.
              let (b', xs', falls, here, frame, same) = closure_parts (closure_then b xs p) in
              omega arith)

          pub gather_next : (place' known' under' : ℕ) → place' ≡ v.0 / node_units % place_units → known' ≡ v.0 / count_unit % count_units → under' ≡ v.0 / block_unit
              → Gathering file cells₀ at block count₀ top cells' free' place' under' known' total'
          gather_next place' known' under' e₁ e₂ e₃ =
              record {
                long = spreads.long ∙ w.long;
                kept = kept_then;
                room = omega (arith, w.room);
                gathered = λ b xs p.
                    let (b', xs', falls, here, frame, same) = closure_parts (closure_then b xs p) in
                    record {
                      body = b';
                      params = xs';
                      behind = own b xs p ++ᵗ (now b xs p).behind;
                      here = subst (λ q. NodesAt file q (flat b')) (sym e₁) here;
                      frame = subst (λ u. Frame file cells' u known' xs') (sym e₃) (subst (λ n. Frame file cells' (block_in_spec v.0) n xs') (sym e₂) frame);
                      lower = let g = (now b xs p).lower in omega arith;
                      holds = holds_now b xs p;
                      is = is_now b xs p ∙ ap (λ t. applied t (own b xs p ++ᵗ (now b xs p).behind)) same;
                    };
              }

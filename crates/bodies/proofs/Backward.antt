-- One node more: the tables hold the terms from it on, or the body is not accepted.
use Prim.Native.Nat.{ℕ, zero, suc, ◌+◌, ◌*◌, ◌/◌, ◌<◌, ◌≤◌}
use mathlib.Core.Path.{◌≡◌, refl, sym, ap, subst, ◌∙◌}
use mathlib.Core.Bool.{Bool, true, false}
use mathlib.Core.List.{List, [], ◌∷◌}
use mathlib.Core.Option.{some}
use native.Mathlib.Omega.{arith}
use native.Mathlib.Nat.{le_of_suc-le-suc}
use borrow.Author.Tests.{le-leb, leb-true, leb-false}
use Rattle.std.specs.Prelude.{Option, Some, None}
use lib.Dec.{T, leb, leb→le}
use lib.ListN.{length, get_or, set, drop, length-set}
use lib.Seq.{get_or-set_same, get_or-set_other, drop-set-lt}
use Rattle.scheme.specs.Sorts.{Sort}
use Rattle.scheme.specs.Sorting.{sort_of, sort_after}
use Rattle.scheme.specs.Terms.{Head, Terms, []ᵗ, ◌∷ᵗ◌, countᵗ, nodes, nodes_all}
use Rattle.scheme.specs.Prefix.{Node, takeᵗ, dropᵗ, terms, complete, depth, deepest}
use Rattle.scheme.proofs.Lists.{and_left, and_right, and_both, true→T}
use Rattle.scheme.proofs.Sorting.{after_out}
use Rattle.casefile.specs.Fields.{field}
use Rattle.casefile.specs.Tables.{head_of, nodes_of, first_term}
use Rattle.sorts.specs.codes.Sorted.{Code}
use Rattle.bodies.specs.declared.Heads.{Heads}
use Rattle.bodies.specs.Bodies.{Held, Fits, ArgumentsFit, Goods, HeldFrom, heads_by, BodyTables, HeadCode, HeldAs, Room, NodeRead, NodeTaken}
use Rattle.bodies.specs.declared.Subterm.{Subterm}
use Rattle.casefile.proofs.Cells.{node_at, nodes_length, nodes_drop}
use Rattle.casefile.specs.Promises.{cell_at}
use Rattle.index.specs.layout.Layout.{max_depth}

module _ (hs : Head → Sort) (sorts : List Sort) (n : ℕ) where
  module _ (ends codes depths : List ℕ) where
    -- behind the first k terms stand the others
    held_drop : (k : ℕ) (ts : Terms) (at : ℕ) → k ≤ countᵗ ts → Held hs sorts ends codes depths n ts at → Held hs sorts ends codes depths n (dropᵗ k ts) (at + nodes_all (takeᵗ k ts))
    unfolding Held dropᵗ takeᵗ nodes_all countᵗ
    held_drop zero ts at l h = let e : at ≡ at + 0 = omega arith in subst (λ x. Held hs sorts ends codes depths n ts x) e h
    held_drop (suc k) []ᵗ at l h = absurd (omega arith)
    held_drop (suc k) (t ∷ᵗ ts) at l h =
        let e : at + nodes t + nodes_all (takeᵗ k ts) ≡ at + (nodes t + nodes_all (takeᵗ k ts)) = omega arith in
        subst (λ x. Held hs sorts ends codes depths n (dropᵗ k ts) x) e (held_drop k ts (at + nodes t) (le_of_suc-le-suc l) h.5)

    -- tables that are the same from a node on
    held_kept : (ends' codes' depths' : List ℕ) (ts : Terms) (at : ℕ) → Held hs sorts ends codes depths n ts at
        → ((j : ℕ) → at ≤ j → get_or ends' j 0 ≡ get_or ends j 0) → ((j : ℕ) → at ≤ j → get_or codes' j 0 ≡ get_or codes j 0) → ((j : ℕ) → at ≤ j → get_or depths' j 0 ≡ get_or depths j 0)
        → Held hs sorts ends' codes' depths' n ts at
    unfolding Held
    held_kept ends' codes' depths' []ᵗ at h e c d = h
    held_kept ends' codes' depths' (t ∷ᵗ ts) at h e c d =
        let s = h.2 in (
          h.0,
          e at (omega arith) ∙ h.1,
          (s.0, s.1, subst (λ x. Code sorts x s.0) (sym (c at (omega arith))) s.2),
          d at (omega arith) ∙ h.3,
          h.4,
          held_kept ends' codes' depths' ts (at + nodes t) h.5 (λ j l. e j (omega arith)) (λ j l. c j (omega arith)) (λ j l. d j (omega arith)),
        )

-- what every body that is accepted has, each part of it has
module _ (hs : Head → Sort) where
  goods_join : (k : ℕ) (ts : Terms) → Goods hs (takeᵗ k ts) → Goods hs (dropᵗ k ts) → Goods hs ts
  unfolding Goods takeᵗ dropᵗ
  goods_join zero ts a b = b
  goods_join (suc k) []ᵗ a b = tt
  goods_join (suc k) (t ∷ᵗ ts) a b = (a.0, a.1, goods_join k ts a.2 b)

  goods_arguments : (ts : Terms) (s x : Sort) → sort_after hs ts s ≡ some x → deepest ts ≤ max_depth → Goods hs ts
  unfolding Goods deepest
  goods_arguments []ᵗ s x e d = tt
  goods_arguments (t ∷ᵗ ts) s x e d =
      let (a, b, es, ea, eb) = after_out hs t ts s x e in
      ((a, ea), omega arith, goods_arguments ts b x eb (omega arith))

  goods_back : (nd : Node) (ns : List Node) → Goods hs (terms (nd ∷ ns)) → Goods hs (terms ns)
  unfolding Goods terms sort_of depth
  goods_back nd ns g =
      let d = g.1 in
      goods_join nd.count (terms ns) (goods_arguments (takeᵗ nd.count (terms ns)) (hs nd.head) g.0.0 g.0.1 (omega arith)) g.2

  goods_drop : (i : ℕ) (ns : List Node) → Goods hs (terms ns) → Goods hs (terms (drop i ns))
  goods_drop zero ns g = g
  goods_drop (suc i) [] g = g
  goods_drop (suc i) (nd ∷ ns) g = goods_drop i ns (goods_back nd ns g)

  complete_drop : (i : ℕ) (ns : List Node) → T (complete ns) → T (complete (drop i ns))
  unfolding complete
  complete_drop zero ns c = c
  complete_drop (suc i) [] c = c
  complete_drop (suc i) (nd ∷ ns) c = complete_drop i ns (and_right (leb nd.count (countᵗ (terms ns))) (complete ns) c)

  -- what a node asks for that is part of such a body
  node_asks : (nd : Node) (ns : List Node) → T (complete (nd ∷ ns)) → Goods hs (terms (nd ∷ ns))
      → (nd.count ≤ countᵗ (terms ns)) × ((x : Sort) × (sort_after hs (takeᵗ nd.count (terms ns)) (hs nd.head) ≡ some x)) × (deepest (takeᵗ nd.count (terms ns)) < 64)
  unfolding complete Goods terms sort_of depth
  node_asks nd ns c g =
      let d = g.1 in
      (leb→le nd.count (countᵗ (terms ns)) (and_left (leb nd.count (countᵗ (terms ns))) (complete ns) c), g.0, omega arith)

module _ (hs : Head → Sort) (sorts : List Sort) (ns : List Node) (i : ℕ) (nd : Node) (d : drop i ns ≡ nd ∷ drop (suc i) ns) (inside : i < length ns) where
  asks : T (complete ns) → Goods hs (terms ns)
      → (nd.count ≤ countᵗ (terms (drop (suc i) ns))) × ((x : Sort) × (sort_after hs (takeᵗ nd.count (terms (drop (suc i) ns))) (hs nd.head) ≡ some x))
      × (deepest (takeᵗ nd.count (terms (drop (suc i) ns))) < 64)
  asks c g =
      node_asks hs nd (drop (suc i) ns) (subst (λ l. T (complete l)) d (complete_drop hs i ns c)) (subst (λ l. Goods hs (terms l)) d (goods_drop hs i ns g))

  module _ {ends codes depths : List ℕ} (h : HeldFrom hs sorts ns ends codes depths (suc i)) where
    -- the node's arguments do not fit, or are too deep
    pub node_misfit : (k : ℕ) → k ≡ nd.count → (k ≤ countᵗ (terms (drop (suc i) ns)) → (x : Sort) → sort_after hs (takeᵗ k (terms (drop (suc i) ns))) (hs nd.head) ≡ some x → ⊥)
        → T (complete ns) → Goods hs (terms ns) → ⊥
    node_misfit k e f c g =
        let (a, b, m) = asks c g in
        f (rw e a) b.0 (rw e b.1)

    pub node_deep : (r : Subterm) (k at : ℕ) → k ≡ nd.count → Fits hs sorts (terms (drop (suc i) ns)) (hs nd.head) at k r → max_depth ≤ r.deep → T (complete ns) → Goods hs (terms ns) → ⊥
    node_deep r k at e f m c g =
        let (a, b, l) = asks c g in
        let q = f.deep_is in
        let z : deepest (takeᵗ k (terms (drop (suc i) ns))) ≡ deepest (takeᵗ nd.count (terms (drop (suc i) ns))) = ap (λ x. deepest (takeᵗ x (terms (drop (suc i) ns)))) e in
        omega arith

    module _ (r : Subterm) (f : Fits hs sorts (terms (drop (suc i) ns)) (hs nd.head) (suc i) nd.count r) (shallow : r.deep < max_depth) where
      module _ (he : i < length ends) (hc : i < length codes) (hd : i < length depths) where
        -- the tables with the node
        abbrev ends' : List ℕ
        ends' = set ends i r.end

        abbrev codes' : List ℕ
        codes' = set codes i r.sort

        abbrev depths' : List ℕ
        depths' = set depths i (r.deep + 1)

        behind : Held hs sorts ends codes depths (length ns) (dropᵗ nd.count (terms (drop (suc i) ns))) (suc i + nodes_all (takeᵗ nd.count (terms (drop (suc i) ns))))
        behind = held_drop hs sorts (length ns) ends codes depths nd.count (terms (drop (suc i) ns)) (suc i) f.enough h.held

        end_here : get_or ends' i 0 ≡ suc i + nodes_all (takeᵗ nd.count (terms (drop (suc i) ns)))
        end_here = get_or-set_same ends i r.end 0 he ∙ f.end_is

        behind' : Held hs sorts ends' codes' depths' (length ns) (dropᵗ nd.count (terms (drop (suc i) ns))) (suc i + nodes_all (takeᵗ nd.count (terms (drop (suc i) ns))))
        behind' =
            held_kept hs sorts (length ns) ends codes depths ends' codes' depths' (dropᵗ nd.count (terms (drop (suc i) ns))) (suc i + nodes_all (takeᵗ nd.count (terms (drop (suc i) ns)))) behind
            (λ j l. get_or-set_other ends i j r.end 0 (λ e. omega arith)) (λ j l. get_or-set_other codes i j r.sort 0 (λ e. omega arith)) (λ j l. get_or-set_other depths i j (r.deep + 1) 0 (λ e. omega arith))

        held_here : Held hs sorts ends' codes' depths' (length ns) (terms (nd ∷ drop (suc i) ns)) i
        unfolding Held terms sort_of nodes depth
        held_here =
            let q = f.deep_is in
            let e : suc i + nodes_all (takeᵗ nd.count (terms (drop (suc i) ns))) ≡ i + suc (nodes_all (takeᵗ nd.count (terms (drop (suc i) ns)))) = omega arith in (
              inside,
              end_here ∙ e,
              (f.rest, f.rest_is, subst (λ x. Code sorts x f.rest) (sym (get_or-set_same codes i r.sort 0 hc)) f.code),
              get_or-set_same depths i (r.deep + 1) 0 hd ∙ (omega arith),
              omega arith,
              subst (λ x. Held hs sorts ends' codes' depths' (length ns) (dropᵗ nd.count (terms (drop (suc i) ns))) x) e behind',
            )

        whole_here : T (complete (nd ∷ drop (suc i) ns))
        unfolding complete
        whole_here =
            and_both (leb nd.count (countᵗ (terms (drop (suc i) ns)))) (complete (drop (suc i) ns))
            (true→T (le-leb nd.count (countᵗ (terms (drop (suc i) ns))) f.enough)) h.whole

        first_here : i + nodes (first_term (terms (nd ∷ drop (suc i) ns))) ≡ suc i + nodes_all (takeᵗ nd.count (terms (drop (suc i) ns)))
        unfolding terms first_term nodes
        first_here = omega arith

        ends_from : (j : ℕ) → i ≤ j → j < length ns → (b : Bool) → leb j i ≡ b → get_or ends' j 0 ≡ j + nodes (first_term (terms (drop j ns)))
        ends_from j l m true e =
            let g = leb-true j i e in
            let ej : i ≡ j = omega arith in
            subst (λ x. get_or ends' x 0 ≡ x + nodes (first_term (terms (drop x ns)))) ej
            (end_here ∙ sym first_here ∙ ap (λ l. i + nodes (first_term (terms l))) (sym d))
        ends_from j l m false e =
            let g = leb-false j i e in
            get_or-set_other ends i j r.end 0 (λ x. omega arith) ∙ h.ends_are j (omega arith) m

        -- the tables hold the node too
        pub node_held : HeldFrom hs sorts ns ends' codes' depths' i
        node_held = record {
          whole = subst (λ l. T (complete l)) (sym d) whole_here;
          held = subst (λ l. Held hs sorts ends' codes' depths' (length ns) (terms l) i) (sym d) held_here;
          ends_are = λ j l m. ends_from j l m (leb j i) refl;
        }

module _ {p : List ℕ} {heads : Heads} {own i : ℕ} {ends codes depths : List ℕ} {head k : ℕ} {r : Option Subterm} (hc : HeadCode p heads own i head)
    (ek : k ≡ field 1 p (i * 4 + 3)) (af : ArgumentsFit heads ends codes depths (length p / 4) (i + 1) k head r) where
  module _ {sorts : List Sort} {counts numbers : List ℕ} (w : BodyTables sorts counts numbers p heads own) (inside : i < length p / 4)
      (h : HeldFrom (heads_by sorts counts numbers own) sorts (nodes_of p) ends codes depths (suc i)) where
    behind_node : Held (heads_by sorts counts numbers own) sorts ends codes depths (length p / 4) (terms (drop (suc i) (nodes_of p))) (i + 1)
    behind_node =
        let e : suc i ≡ i + 1 = omega arith in
        subst (λ x. Held (heads_by sorts counts numbers own) sorts ends codes depths (length p / 4) (terms (drop (suc i) (nodes_of p))) x) e
        (subst (λ x. Held (heads_by sorts counts numbers own) sorts ends codes depths x (terms (drop (suc i) (nodes_of p))) (suc i)) (nodes_length p) h.held)

    node_inside : i < length (nodes_of p)
    node_inside = let e = nodes_length p in omega arith

    fits_node : (a : Subterm) → r ≡ Some a → Fits (heads_by sorts counts numbers own) sorts (terms (drop (suc i) (nodes_of p))) (heads_by sorts counts numbers own (head_of (cell_at p i))) (suc i) (node_at p i).count a
    fits_node a y =
        let e : i + 1 ≡ suc i = omega arith in
        subst (λ x. Fits (heads_by sorts counts numbers own) sorts (terms (drop (suc i) (nodes_of p))) (heads_by sorts counts numbers own (head_of (cell_at p i))) (suc i) x a) ek
        (subst (λ x. Fits (heads_by sorts counts numbers own) sorts (terms (drop (suc i) (nodes_of p))) (heads_by sorts counts numbers own (head_of (cell_at p i))) x k a) e
        (af.fits (heads_by sorts counts numbers own) sorts (terms (drop (suc i) (nodes_of p))) (heads_by sorts counts numbers own (head_of (cell_at p i))) w.coded behind_node
        (hc sorts counts numbers w inside) a y))

    misfit_fails : r ≡ None → T (complete (nodes_of p)) → Goods (heads_by sorts counts numbers own) (terms (nodes_of p)) → ⊥
    misfit_fails y =
        node_misfit (heads_by sorts counts numbers own) sorts (nodes_of p) i (node_at p i) (nodes_drop p i inside) node_inside h k ek
        (af.misfit (heads_by sorts counts numbers own) sorts (terms (drop (suc i) (nodes_of p))) (heads_by sorts counts numbers own (head_of (cell_at p i))) w.coded behind_node
        (hc sorts counts numbers w inside) y)

    deep_fails : (a : Subterm) → r ≡ Some a → max_depth ≤ a.deep → T (complete (nodes_of p)) → Goods (heads_by sorts counts numbers own) (terms (nodes_of p)) → ⊥
    deep_fails a y m =
        node_deep (heads_by sorts counts numbers own) sorts (nodes_of p) i (node_at p i) (nodes_drop p i inside) node_inside h a (node_at p i).count (suc i) refl (fits_node a y) m

  pub read_misfit : r ≡ None → NodeRead p heads own i ends codes depths ends codes depths false
  read_misfit y = record {
    long = refl;
    long_codes = refl;
    long_depths = refl;
    rest = λ m l. refl;
    holds = λ sorts counts numbers w inside he hc' hd h e. absurd (let z : ◌≡◌ {A = ℕ} 0 1 = cc in omega arith);
    fails = λ sorts counts numbers w inside h e. misfit_fails w inside h y;
  }

  pub read_deep : (a : Subterm) → r ≡ Some a → max_depth ≤ a.deep → NodeRead p heads own i ends codes depths ends codes depths false
  read_deep a y m = record {
    long = refl;
    long_codes = refl;
    long_depths = refl;
    rest = λ n l. refl;
    holds = λ sorts counts numbers w inside he hc' hd h e. absurd (let z : ◌≡◌ {A = ℕ} 0 1 = cc in omega arith);
    fails = λ sorts counts numbers w inside h e. deep_fails w inside h a y m;
  }

  pub read_held : (a : Subterm) → r ≡ Some a → a.deep < max_depth
      → NodeRead p heads own i ends codes depths (set ends i a.end) (set codes i a.sort) (set depths i (a.deep + 1)) true
  read_held a y m = record {
    long = length-set ends i a.end;
    long_codes = length-set codes i a.sort;
    long_depths = length-set depths i (a.deep + 1);
    rest = λ n l. drop-set-lt n ends i a.end l;
    holds = λ sorts counts numbers w inside he hc' hd h e.
        node_held (heads_by sorts counts numbers own) sorts (nodes_of p) i (node_at p i) (nodes_drop p i inside) (node_inside w inside h) h a (fits_node w inside h a y) m he hc' hd;
    fails = λ sorts counts numbers w inside h e. absurd (let z : ◌≡◌ {A = ℕ} 0 1 = cc in omega arith);
  }

-- a node by what the tables hold of it
held_some : {ends codes depths : List ℕ} {n at : ℕ} {a : Subterm} → at < n → a.end ≡ get_or ends at 0 → a.sort ≡ get_or codes at 0 → a.deep ≡ get_or depths at 0 → HeldAs ends codes depths n at (Some a)
held_some {ends} {codes} {depths} {n} {at} {a} h ee es ed = record {
  behind = λ e. absurd (cc);
  inside = λ b e. h;
  end_is = λ b e. let same : a ≡ b = cc in subst (λ (x : Subterm). x.end ≡ get_or ends at 0) same ee;
  sort_is = λ b e. let same : a ≡ b = cc in subst (λ (x : Subterm). x.sort ≡ get_or codes at 0) same es;
  deep_is = λ b e. let same : a ≡ b = cc in subst (λ (x : Subterm). x.deep ≡ get_or depths at 0) same ed;
}

module _ {p : List ℕ} {heads : Heads} {own i : ℕ} {ends codes depths : List ℕ} where
  -- a node that does not fit
  pub taken_misfit : NodeRead p heads own i ends codes depths ends codes depths false
      → NodeTaken p heads own i ends codes depths ends codes depths None
  taken_misfit n = record { read = n; held_as = λ a e. absurd (cc) }

  -- a node that fits is what the tables hold of it
  pub taken_held : {e c d : ℕ} → i < length p / 4 → Room p ends codes depths
      → NodeRead p heads own i ends codes depths (set ends i e) (set codes i c) (set depths i d) true
      → NodeTaken p heads own i ends codes depths (set ends i e) (set codes i c) (set depths i d) (Some (record { end = e; sort = c; deep = d }))
  taken_held {e} {c} {d} h room n =
      let a = room.few in
      let b = room.ends_long in
      let f = room.codes_long in
      let g = room.depths_long in
      record {
        read = n;
        held_as = λ x y. held_some h (sym (get_or-set_same ends i e 0 (omega arith))) (sym (get_or-set_same codes i c 0 (omega arith))) (sym (get_or-set_same depths i d 0 (omega arith)));
      }

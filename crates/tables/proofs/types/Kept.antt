-- What the table says of types and bindings stays so while the cells that it rests on stay.
use Prim.Native.Nat.{ℕ, suc, ◌+◌, ◌/◌, ◌%◌, ◌<◌}
use native.Mathlib.Omega.{arith}
use mathlib.Core.Path.{◌≡◌, sym, ap, subst, ◌∙◌}
use mathlib.Core.List.{List}
use lib.ListN.{get_or}
use Rattle.scheme.specs.Types.{Ty, state, Tys, members}
use Rattle.casefile.specs.Records.{Record}
use Rattle.casefile.specs.Kinds.{Kind, count}
use Rattle.index.specs.layout.Layout.{max_states, max_members, rows_size, row_cells, symbol_cell, own_cell, near_cell, low_cell, high_cell, members_cell, word_bits, pair_cells}
use Rattle.marks.specs.Marks.{bit_of}
use Rattle.tables.specs.Facts.{Goal, ArrowRow, TypesAre, binding_at, BindingsAre}
use Rattle.tables.specs.reading.Cells.{cell_of, near_of_spec, mask_of, member_of_spec, group_of, pair_at}
use Rattle.tables.proofs.types.Meaning.{goal_below}

module _ (rs : List Record) (t after : List ℕ) (same : (g k : ℕ) → g < count Kind.type rs + max_states → k < row_cells → cell_of after g k ≡ cell_of t g k) where
  one : (g j : ℕ) → g < count Kind.type rs + max_states → cell_of after g (members_cell + j % max_members) ≡ cell_of t g (members_cell + j % max_members)
  one g j h = same g (members_cell + j % max_members) h (omega arith)

  arrow_kept : (g : ℕ) (a : Tys) (r : Ty) → g < count Kind.type rs + max_states → ArrowRow rs t g a r → ArrowRow rs after g a r
  arrow_kept g a r h x =
      record {
        result = subst (λ y. Goal rs y r) (sym (same g 0 h (omega arith))) x.result;
        ends = x.ends ∙ ap state (sym (same g 1 h (omega arith)));
        end_small = subst (λ y. y < max_states) (sym (same g 1 h (omega arith))) x.end_small;
        many = same g 4 h (omega arith) ∙ x.many;
        few = x.few;
        member = λ j l. subst (λ y. Goal rs y (get_or (members a) j (state 0))) (sym (one g j h)) (x.member j l);
        states_in = λ q l e. x.states_in q l (subst (λ y. bit_of q y ≡ 1) (same g 2 h (omega arith)) e);
        states_out = λ q m. subst (λ y. bit_of q y ≡ 1) (sym (same g 2 h (omega arith))) (x.states_out q m);
        pure = λ e. x.pure (sym (same g 3 h (omega arith)) ∙ e);
        near = λ n j l.
            let (w, b) = x.near (λ e. n (near ∙ e)) j l in
            (ap (λ y. y / word_bits) (one g j h) ∙ w ∙ sym near, subst (λ y. bit_of (y % word_bits) (mask_of after g) ≡ 1) (sym (one g j h)) (subst (λ y. bit_of (member_of_spec t g j % word_bits) y ≡ 1) (sym mask) b));
      }
    where
      near : near_of_spec after g ≡ near_of_spec t g
      near = same g near_cell h (omega arith)

      mask : mask_of after g ≡ mask_of t g
      mask = let y = same g low_cell h (omega arith) in let z = same g high_cell h (omega arith) in omega arith

  pub types_kept : TypesAre rs t → TypesAre rs after
  types_kept x =
      record {
        few_types_law = x.few_types_law;
        state_row = λ q l.
            let s = x.state_row q l in
            record { no_result = same q 0 (omega arith) (omega arith) ∙ s.no_result; own_end = same q 1 (omega arith) (omega arith) ∙ s.own_end; no_members = same q 4 (omega arith) (omega arith) ∙ s.no_members };
        arrow_row = λ g a r l. arrow_kept g a r (goal_below l) (x.arrow_row g a r l);
        one_number = x.one_number;
      }

-- the bindings of a table whose groups and cells of bindings are the same
pub bindings_kept : (rs : List Record) (t after : List ℕ) → count Kind.nonterminal rs < rows_size → ((b k : ℕ) → k < pair_cells → get_or after (pair_at b + k) 0 ≡ get_or t (pair_at b + k) 0)
    → ((f : ℕ) → f < rows_size → group_of after f ≡ group_of t f) → ((b : ℕ) → b < count Kind.binding rs → suc (binding_at rs b).nonterminal < rows_size) → BindingsAre rs t → BindingsAre rs after
bindings_kept rs t after known same group few x =
    record {
      symbol = λ b h. same b symbol_cell (omega arith) ∙ x.symbol b h;
      own = λ b h. subst (λ y. Goal rs y (binding_at rs b).type) (sym (same b own_cell (omega arith))) (x.own b h);
      grouped = λ b h.
          let (l, m) = x.grouped b h in
          let s = few b h in
          let e = group (binding_at rs b).nonterminal (omega arith) in
          let f = group (suc (binding_at rs b).nonterminal) s in
          (omega arith, omega arith);
      between = λ f b l low below.
          let e = group f (omega arith) in
          let g = group (suc f) (omega arith) in
          x.between f b l (omega arith) (omega arith);
    }

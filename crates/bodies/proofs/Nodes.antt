-- The sorts of the heads of a body's nodes.
use Prim.Native.Nat.{ℕ, ◌+◌, ◌*◌, ◌/◌, ◌<◌, ◌≤◌}
use mathlib.Core.Path.{◌≡◌, refl, sym, ap, subst, ◌∙◌}
use mathlib.Core.Bool.{false}
use mathlib.Core.List.{List, [], ◌∷◌}
use native.Mathlib.Omega.{arith}
use lib.ListN.{length, get_or}
use Rattle.scheme.specs.Sorts.{Sort, o, arguments}
use Rattle.scheme.specs.Sorting.{head_sort}
use Rattle.scheme.proofs.Lists.{any_at, get_d_map_in, get_d_prefix}
use Rattle.casefile.specs.Fields.{field, IsField}
use Rattle.casefile.specs.Tables.{cells_of, head_of}
use Rattle.casefile.specs.Refusals.{wrong_cell_spec}
use Rattle.sorts.specs.codes.Sorted.{Code, listed, ParameterSort}
use Rattle.casefile.proofs.Cells.{cells_length, cells_at, cell_range}
use Rattle.casefile.specs.Promises.{cell_at}
use Rattle.bodies.specs.declared.Heads.{Heads}
use Rattle.bodies.specs.Bodies.{heads_by, BodyTables}

-- two bytes side by side are a field of two
pub field_two : (s : List ℕ) (i j r : ℕ) → j ≡ i + 1 → get_or s i 0 < 256 → get_or s j 0 < 256 → r ≡ get_or s i 0 + get_or s j 0 * 256 → IsField 2 s i r
unfolding field
field_two s i j r e low high er = let same = ap (λ k. get_or s k 0) e in record { value = omega arith; bound = omega arith }

tag_two : (k : ℕ) → k ≤ 2 → (k ≡ 0 → ⊥) → (k ≡ 1 → ⊥) → k ≡ 2
tag_two k h a b = omega arith

module _ {sorts : List Sort} {counts numbers p : List ℕ} {heads : Heads} {own : ℕ} (w : BodyTables sorts counts numbers p heads own) where
  in_range_at : (i : ℕ) → i < length p / 4
      → (field 1 p (i * 4) ≤ 2) × (field 2 p (i * 4 + 1) < get_or (length counts ∷ length numbers ∷ []) (field 1 p (i * 4)) (length (arguments (get_or sorts own o))))
  in_range_at i h =
      let z = cell_at p i in
      let q = wrong_cell_spec (length counts) (length numbers) (length (arguments (get_or sorts own o))) in
      let l = cells_length p in
      cell_range (length counts) (length numbers) (length (arguments (get_or sorts own o))) z (subst (λ x. q x ≡ false) (cells_at p i z h) (any_at q (cells_of p) i z w.in_range (omega arith)))

  -- a constructor
  pub head_con : (i tag number arity r : ℕ) → i < length p / 4 → tag ≡ field 1 p (i * 4) → number ≡ field 2 p (i * 4 + 1) → tag ≡ 0 → arity ≡ get_or heads.arities.now number 0 → r ≡ get_or heads.trees.now arity 0
      → Code sorts r (heads_by sorts counts numbers own (head_of (cell_at p i)))
  unfolding head_of head_sort
  head_con i tag number arity r h et en z ea er =
      let t : field 1 p (i * 4) ≡ 0 = sym et ∙ z in
      let k : number < length counts = rw en (rw t at (in_range_at i h).1) in
      let e : arity ≡ get_or counts number 0 = ea ∙ get_d_prefix counts heads.arities.now number 0 w.counts_are k in
      let s = w.counts_small number in
      rw (t, ← en, er, e) (w.coded.constructors (get_or counts number 0) s)

  -- a nonterminal
  pub head_nt : (i tag number r : ℕ) → i < length p / 4 → tag ≡ field 1 p (i * 4) → number ≡ field 2 p (i * 4 + 1) → tag ≡ 1 → r ≡ get_or heads.signatures.now number 0
      → Code sorts r (heads_by sorts counts numbers own (head_of (cell_at p i)))
  unfolding head_of head_sort
  head_nt i tag number r h et en z er =
      let t : field 1 p (i * 4) ≡ 1 = sym et ∙ z in
      let k : number < length numbers = rw en (rw t at (in_range_at i h).1) in
      let e : r ≡ get_or numbers number 0 = er ∙ get_d_prefix numbers heads.signatures.now number 0 w.numbers_are k in
      let b = w.numbers_below number k in
      rw (t, ← en, get_d_map_in (λ (f : ℕ). get_or sorts f o) numbers number o 0 k, e) (listed b refl)

  -- a parameter
  pub head_par : (i tag number r : ℕ) → i < length p / 4 → tag ≡ field 1 p (i * 4) → number ≡ field 2 p (i * 4 + 1) → (tag ≡ 0 → ⊥) → (tag ≡ 1 → ⊥) → ParameterSort heads.sorts own number r
      → Code sorts r (heads_by sorts counts numbers own (head_of (cell_at p i)))
  unfolding head_of head_sort
  head_par i tag number r h et en z y f =
      let (a, b) = in_range_at i h in
      let t : field 1 p (i * 4) ≡ 2 = sym et ∙ tag_two tag (rw et a) z y in
      let k : number < length (arguments (get_or sorts own o)) = rw en (rw t at b) in
      let g = f sorts w.coded.table w.own_below k in
      rw (t, ← en) (listed g.0 g.1)

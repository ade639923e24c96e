-- A sort by its code, with an argument off.
use Prim.Native.Nat.{ℕ, zero, suc, ◌+◌, ◌-◌, ◌<◌, ◌≤◌}
use mathlib.Core.Path.{◌≡◌, refl, ap}
use mathlib.Core.List.{List}
use native.Mathlib.Omega.{arith}
use Rattle.std.specs.Prelude.{Some, None}
use lib.ListN.{length, get_or}
use Rattle.scheme.specs.Sorts.{Sort, o, ◌⇒◌, tree_sort}
use Rattle.sorts.specs.declared.codes.Sorts.{Sorts}
use Rattle.sorts.specs.codes.Sorted.{Code, listed, unlisted, Coded, Off, misfit, off}
use Rattle.sorts.proofs.codes.Codes.{code_listed, listed_code, code_small}

module _ {sorts : List Sort} {arrows : Sorts} {trees : List ℕ} (w : Coded sorts arrows trees) {s : Sort} {head : ℕ} where
  -- a code over 1000 is that of constructors with an argument at least
  tree_head : 1000 < head → Code sorts head s → (m : ℕ) × (m < 4) × (head ≡ 1001 + m) × (s ≡ o ⇒ tree_sort m)
  unfolding tree_sort
  tree_head h (listed k e) = absurd (omega (arith, w.table.few))
  tree_head h (unlisted zero k e f u) = absurd (omega arith)
  tree_head h (unlisted (suc m) k e f u) = (m, omega arith, omega arith, f)

  -- any other is a number
  listed_head : head ≤ 1000 → Code sorts head s → (head < length sorts) × (get_or sorts head o ≡ s)
  unfolding tree_sort
  listed_head h (listed k e) = (k, e)
  listed_head h (unlisted zero k e f u) = absurd (u 0 w.table.positive w.table.start)
  listed_head h (unlisted (suc m) k e f u) = absurd (omega arith)

  pub off_tree_misfit : {t : Sort} {argument : ℕ} → 1000 < head → (argument ≡ 0 → ⊥) → Code sorts head s → Code sorts argument t → Off sorts s t None
  off_tree_misfit {t} h ne ch ca =
      let (m, k, e, f) = tree_head h ch in
      misfit refl (λ b g. let st = w.table.start in let et : get_or sorts 0 o ≡ t = cc in ne (listed_code w.table 0 ca w.table.positive et))

  pub off_tree : {t : Sort} {argument : ℕ} (r : ℕ) → 1000 < head → argument ≡ 0 → r ≡ get_or trees (head - 1001) 0 → Code sorts head s → Code sorts argument t → Off sorts s t (Some r)
  off_tree {t} {argument} r h z er ch ca =
      let (m, k, e, f) = tree_head h ch in
      let ei : head - 1001 ≡ m = omega arith in
      let code : Code sorts r (tree_sort m) = rw (er, ei) (w.constructors m (omega arith)) in
      let et : get_or sorts argument o ≡ t = (code_listed w.table ca (omega arith)).1 in
      let ea : get_or sorts argument o ≡ get_or sorts 0 o = ap (λ x. get_or sorts x o) z in
      let st = w.table.start in
      off r refl (code_small w.table code) (tree_sort m) (cc) code

  pub off_none : {t : Sort} → head ≡ 0 → Code sorts head s → Off sorts s t None
  off_none z ch =
      let (k, e) = listed_head (omega arith) ch in
      let ea : get_or sorts head o ≡ get_or sorts 0 o = ap (λ x. get_or sorts x o) z in
      let st = w.table.start in
      misfit refl (λ b g. let q : ◌≡◌ {A = ℕ} 0 1 = cc in omega arith)

  pub off_misfit : {t : Sort} {argument : ℕ} → head ≤ 1000 → (head ≡ 0 → ⊥) → (argument ≡ get_or arrows.froms.now head 0 → ⊥) → Code sorts head s → Code sorts argument t → Off sorts s t None
  off_misfit {t} h nz ne ch ca =
      let (k, e) = listed_head h ch in
      let p : 0 < head = omega arith in
      let made = w.table.made head p k in
      let below = w.table.from_below head p k in
      misfit refl (λ b g. let et : get_or sorts (get_or arrows.froms.now head 0) o ≡ t = cc in ne (listed_code w.table (get_or arrows.froms.now head 0) ca (omega arith) et))

  pub off_listed : {t : Sort} {argument : ℕ} (r : ℕ) → head ≤ 1000 → (head ≡ 0 → ⊥) → argument ≡ get_or arrows.froms.now head 0 → r ≡ get_or arrows.tos.now head 0 → Code sorts head s → Code sorts argument t → Off sorts s t (Some r)
  off_listed {t} {argument} r h nz ea er ch ca =
      let (k, e) = listed_head h ch in
      let p : 0 < head = omega arith in
      let made = w.table.made head p k in
      let fb = w.table.from_below head p k in
      let tb = w.table.to_below head p k in
      let few = w.table.few in
      let et : get_or sorts argument o ≡ t = (code_listed w.table ca (omega arith)).1 in
      let eb : get_or sorts argument o ≡ get_or sorts (get_or arrows.froms.now head 0) o = ap (λ x. get_or sorts x o) ea in
      let ec : get_or sorts r o ≡ get_or sorts (get_or arrows.tos.now head 0) o = ap (λ x. get_or sorts x o) er in
      off r refl (omega arith) (get_or sorts (get_or arrows.tos.now head 0) o) (cc) (listed (omega arith) ec)

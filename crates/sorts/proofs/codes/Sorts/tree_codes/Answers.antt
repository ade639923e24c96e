-- `tree_codes` meets its contract.
use native.Mathlib.Omega.{arith}
use mathlib.Core.Path.{refl}
use Rattle.sorts.proofs.codes.Codes.{tree_start, five}
use Rattle.sorts.proofs.codes.Sorts.tree_codes.Goals as goal

pub returns : goal.returns
returns c = λ sorts w long.
    let a = c.next_tree-one.ensures sorts 0 w long (omega arith) refl (tree_start w) in
    let b = c.next_tree-two.ensures sorts 1 w long (omega arith) refl a in
    let d = c.next_tree-three.ensures sorts 2 w long (omega arith) refl b in
    let e = c.next_tree-four.ensures sorts 3 w long (omega arith) refl d in
    five w _ _ _ _ a b d e

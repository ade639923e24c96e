-- Cells: three words each, `wide` of them to a node, so that two nodes, or two goals that are not in one word, have two
-- cells, and no word is in both.
use Prim.Native.Nat.{ℕ, suc, ◌+◌, ◌*◌, ◌<◌, ◌≤◌}
use native.Mathlib.Omega.{arith}
use native.Mathlib.Decide.{dec_lt}
use native.Mathlib.Nat.{suc-mul, mul-le-mul_right}
use mathlib.Core.Path.{◌≡◌, sym, ap, ◌∙◌}
use mathlib.Core.List.{List}
use lib.ListN.{length, get_or, set, length-set}
use lib.Seq.{get_or-set_same, get_or-set_other}

-- the cells of later nodes stand behind those of earlier ones
later : (wide at g at' g' : ℕ) → g < wide → at < at' → at * wide + g ≡ at' * wide + g' → ⊥
later wide at g at' g' h l e =
    let rows : suc at * wide ≤ at' * wide = mul-le-mul_right wide l in
    let more = suc-mul at wide in
    omega arith

pub same_place : (wide at g at' g' : ℕ) → g < wide → g' < wide → at * wide + g ≡ at' * wide + g' → (at ≡ at') × (g ≡ g')
same_place wide at g at' g' h h' e = go (dec_lt at at') (dec_lt at' at)
  where
    go : Dec (at < at') → Dec (at' < at) → (at ≡ at') × (g ≡ g')
    go (yes l) r = absurd (later wide at g at' g' h l e)
    go (no l) (yes r) = absurd (later wide at' g' at g h' r (sym e))
    go (no l) (no r) = let same : at ≡ at' = omega arith in let rows = ap (λ x. x * wide) same in (same, omega arith)

-- a cell written whole
abbrev pub written : List ℕ → ℕ → ℕ → ℕ → ℕ → List ℕ
written memo cell first second third = set (set (set memo cell first) (cell + 1) second) (cell + 2) third

module _ (memo : List ℕ) (cell first second third : ℕ) where
  pub written_long : length (written memo cell first second third) ≡ length memo
  written_long = length-set (set (set memo cell first) (cell + 1) second) (cell + 2) third ∙ length-set (set memo cell first) (cell + 1) second ∙ length-set memo cell first

  pub written_other : (i : ℕ) → (i ≡ cell → ⊥) → (i ≡ cell + 1 → ⊥) → (i ≡ cell + 2 → ⊥) → get_or (written memo cell first second third) i 0 ≡ get_or memo i 0
  written_other i a b c =
      get_or-set_other (set (set memo cell first) (cell + 1) second) (cell + 2) i third 0 c
      ∙ get_or-set_other (set memo cell first) (cell + 1) i second 0 b
      ∙ get_or-set_other memo cell i first 0 a

  module _ (room : cell + 3 ≤ length memo) where
    pub written_first : get_or (written memo cell first second third) cell 0 ≡ first
    written_first =
        get_or-set_other (set (set memo cell first) (cell + 1) second) (cell + 2) cell third 0 (λ e. omega arith)
        ∙ get_or-set_other (set memo cell first) (cell + 1) cell second 0 (λ e. omega arith)
        ∙ get_or-set_same memo cell first 0 (omega arith)

    pub written_second : get_or (written memo cell first second third) (cell + 1) 0 ≡ second
    written_second =
        let one = length-set memo cell first in
        get_or-set_other (set (set memo cell first) (cell + 1) second) (cell + 2) (cell + 1) third 0 (λ e. omega arith)
        ∙ get_or-set_same (set memo cell first) (cell + 1) second 0 (omega arith)

    pub written_third : get_or (written memo cell first second third) (cell + 2) 0 ≡ third
    written_third =
        let one = length-set memo cell first in
        let two = length-set (set memo cell first) (cell + 1) second in
        get_or-set_same (set (set memo cell first) (cell + 1) second) (cell + 2) third 0 (omega arith)

-- The sets of candidates stand behind the numbers of a test.
use Prim.Native.Nat.{ℕ, ◌+◌, ◌/◌, ◌%◌}
use native.Mathlib.Omega.{arith}
use mathlib.Core.Path.{◌≡◌, sym, ap, subst, ◌∙◌}
use mathlib.Core.Bool.{Bool}
use mathlib.Core.List.{List}
use lib.ListN.{get_or, drop}
use lib.Seq.{get_or-drop}
use Rattle.index.specs.layout.Layout.{word_bits}
use Rattle.marks.specs.Marks.{bit_of, Decides, FindsNext}

module _ (r : List ℕ) (k row : ℕ) where
  bit_behind : (n : ℕ) → bit_of (n % word_bits) (get_or (drop k r) (row + n / word_bits) 0) ≡ bit_of (n % word_bits) (get_or r (k + row + n / word_bits) 0)
  bit_behind n = ap (bit_of (n % word_bits)) (get_or-drop k r (row + n / word_bits) 0 ∙ ap (λ i. get_or r i 0) (let e : k + (row + n / word_bits) ≡ k + row + n / word_bits = omega arith in e))

  module _ (at : ℕ) (e : at ≡ k + row) where
    pub decides_behind : (n : ℕ) (b : Bool) → Decides r at n b → Decides (drop k r) row n b
    decides_behind n b all =
        let d = subst (λ a. Decides r a n b) e all in
        record { yes = λ e. bit_behind n ∙ d.yes e; no = λ e i. d.no e (sym (bit_behind n) ∙ i) }

    pub next_behind_sets : (from end n : ℕ) → FindsNext r at from end n → FindsNext (drop k r) row from end n
    next_behind_sets from end n all =
        let f = subst (λ a. FindsNext r a from end n) e all in
        record { within = f.within; passed = λ m h l i. f.passed m h l (sym (bit_behind m) ∙ i); found = λ h. ((f.found h).0, bit_behind n ∙ (f.found h).1) }

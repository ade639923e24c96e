-- The hash of a payload, number by number.
use Prim.Native.Nat.{ℕ, ◌+◌, ◌*◌, ◌/◌, ◌%◌, ◌<◌, ◌≤◌}
use native.Mathlib.Omega.{arith}
use mathlib.Core.Path.{◌≡◌, sym, ap, ◌∙◌}
use mathlib.Core.List.{List, ◌∷◌}
use lib.ListN.{length, drop}
use Rattle.casefile.specs.Fields.{byte, word}
use Rattle.casefile.specs.Tables.{words}
use Rattle.casefile.proofs.Steps.{words_step, words_done}
use Rattle.index.specs.layout.Layout.{hashes}
use Rattle.index.specs.entries.Chains.{mixed, hash_of_spec}

module _ (p : List ℕ) where
  -- what is left of the numbers is mixed into h
  abbrev pub Mixes : ℕ → ℕ → Type 0
  Mixes h i = mixed (byte p 0 * 256) (words p) ≡ mixed h (words (drop i p))

  pub mix_start : (b : ℕ) → b ≡ byte p 0 → Mixes (b * 256) 0
  mix_start b e = ap (λ z. mixed (z * 256) (words p)) (sym e)

  pub mix_step : (h k w : ℕ) → 2 * k + 2 ≤ length p → w ≡ word p (2 * k) → Mixes h (2 * k) → Mixes ((h + w) * 40503 % 65536) (2 * (k + 1))
  unfolding mixed
  mix_step h k w l e m =
      let next : 2 * k + 2 ≡ 2 * (k + 1) = omega arith in
      m ∙ ap (mixed h) (words_step p (2 * k) l ∙ ap (λ n. n ∷ words (drop (2 * k + 2) p)) (sym e)) ∙ ap (λ n. mixed ((h + w) * 40503 % 65536) (words (drop n p))) next

  pub mix_done : (h k : ℕ) → length p < 2 * k + 2 → Mixes h (2 * k) → h / 256 % 256 ≡ hash_of_spec p
  unfolding mixed hash_of_spec
  mix_done h k l m = ap (λ z. z / 256 % 256) (sym (m ∙ ap (mixed h) (words_done p (2 * k) l)))

pub hash_few : (p : List ℕ) → hash_of_spec p < hashes
unfolding hash_of_spec
hash_few p = omega arith

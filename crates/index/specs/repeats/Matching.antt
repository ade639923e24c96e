-- What our own crates promise each other; nothing here has to be believed.
-- A payload that repeats an earlier one.
use Rattle.std.specs.Prelude.{ℕ, ◌≤◌, ◌≡◌, Bool, List, length}
use Rattle.casefile.specs.Records.{Record}
use Rattle.casefile.specs.Kinds.{Kind}
use Rattle.casefile.specs.Refusals.{repeats}
use Rattle.index.specs.layout.Layout.{max_types}
use Rattle.index.specs.entries.Index.{base, Indexed}

module _ (file index : List ℕ) where
  -- one of n payloads of a kind, whose block of the index begins at b, is p
  abbrev pub Repeats : ℕ → ℕ → List ℕ → Bool → Type 0
  Repeats b n p r = (k : Kind) (rs : List Record) → b ≡ base k → Indexed file index k n rs → n ≤ max_types → length p ≤ 64 → r ≡ repeats rs p k

-- What our own crates promise each other; nothing here has to be believed.
-- The code of a type's payload taken alone: all of 4 to 7 but whether an earlier type has the same payload.
use Rattle.std.specs.Prelude.{ℕ, zero, suc, ◌<◌, ◌≤◌, ◌≡◌, Bool, List, length}
use Rattle.scheme.specs.Lists.{choose◌then◌else◌}
use Rattle.casefile.specs.Records.{Record}
use Rattle.casefile.specs.Kinds.{type, count}
use Rattle.casefile.specs.Tables.{state_count_spec}
use Rattle.casefile.specs.Refusals.{repeats}
use Rattle.index.specs.layout.Layout.{max_types, max_type}
use Rattle.index.specs.entries.Codes.{code_for}

-- a code other than 0 stands; where it is 0, a repeat is refused by 7
unfoldable pub or_repeat : ℕ → Bool → ℕ
or_repeat zero again = choose again then 7 else 0
or_repeat (suc r) again = suc r

-- r and whether the payload is repeated decide; where r is 0, the payload and the types before it are few
pub record CodesAlone (n states : ℕ) (p : List ℕ) (r : ℕ) : Type 0 where
  pub decides : (rs : List Record) → count type rs ≡ n → state_count_spec rs ≡ states → code_for rs p type ≡ or_repeat r (repeats rs p type)
  pub few : r ≡ 0 → (n < max_types) × (length p ≤ max_type)

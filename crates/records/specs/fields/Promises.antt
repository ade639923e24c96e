-- What our own crates promise each other of a record's header; nothing here has to be believed.
use Rattle.std.specs.Prelude.{ℕ, ◌-◌, ◌<◌, ◌≤◌, ◌≡◌, List}
use Rattle.casefile.specs.Fields.{word}

-- r is the length of the payload that begins at a place, by the header before it; 0 where there is no room for a header
pub record HasLength (file : List ℕ) (start r : ℕ) : Type 0 where
  pub headed : 4 ≤ start → r ≡ word file (start - 4)
  pub bare : start < 4 → r ≡ 0
  pub bound : r < 65536

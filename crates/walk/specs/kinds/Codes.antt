-- What our own crates promise each other; nothing here has to be believed.
-- The code of a record by its kind.
use Rattle.std.specs.Prelude.{ℕ, List}
use Rattle.std.proofs.Math.Option.{Option, none, some}
use Rattle.casefile.specs.Records.{Record}
use Rattle.casefile.specs.Kinds.{Kind}
use Rattle.index.specs.entries.Codes.{code_for}

-- the code of a payload of a kind, 3 where the kind is not known
unfoldable pub code_as : List Record → List ℕ → Option Kind → ℕ
code_as rs p none = 3
code_as rs p (some k) = code_for rs p k

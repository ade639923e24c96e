-- What our own crates promise each other; nothing here has to be believed.
-- The sorts of heads in a term that has no parameters. Section "Reduction and replay" of the scope.
use Rattle.std.specs.Prelude.{List, []}
use Rattle.scheme.specs.Sorts.{Sort}
use Rattle.scheme.specs.Sorting.{head_sort}
use Rattle.scheme.specs.Terms.{Head}
use Rattle.casefile.specs.Records.{Record}
use Rattle.casefile.specs.Tables.{arities_of, signatures_of}

-- the sort of each head by the tables of a file, with no parameters
unfoldable pub closed_sorts : List Record → Head → Sort
closed_sorts rs = head_sort (arities_of rs) (signatures_of rs) []

-- A file is refused by 1 to 12, or it is a binding case or a path case. Sections "What is turned away" and "Verdicts" of the scope.
use Rattle.std.specs.Prelude.{ℕ, List, [], ◌∷◌, ◌++◌}
use Rattle.std.proofs.Math.Option.{Option, none, some}
use Rattle.scheme.specs.Lists.{choose◌then◌else◌}
use Rattle.casefile.specs.Records.{Record, Walk, end, cut, next, records_of}
use Rattle.casefile.specs.Kinds.{Kind, payloads}
use Rattle.casefile.specs.Refusals.{Refusal, too_long, refuse_record, refuse_whole}

-- what a file is, with its records
pub data Case : Type 0 where
  refused_case : Refusal → Case
  binding_case : List Record → Case
  -- with the letters of the path
  path_case : List Record → List ℕ → Case

-- the refusal if there is one, else the case
unfoldable pub unless_refused : Option Refusal → Case → Case
unless_refused none c = c
unless_refused (some r) c = refused_case r

-- "A file without a path is a binding case"
unfoldable pub accepted_case : List Record → List (List ℕ) → Case
accepted_case rs [] = binding_case rs
accepted_case rs (letters ∷ ps) = path_case rs letters

-- "each record in file order meets 2 to 7 in number order", after the records rs that passed; "Then 8 to 12"
unfoldable pub case_from : ℕ → Walk → List Record → Case
case_from flags end rs = unless_refused (refuse_whole rs flags) (accepted_case rs (payloads Kind.path rs))
case_from flags (cut at) rs = refused_case (record { number = 2; place = at })
case_from flags (next r w) rs = let others = case_from flags w (rs ++ (r ∷ [])) in unless_refused (refuse_record rs r) others

-- "Number 1 is tested first": the case of the bytes of a file, where `flags` flag bytes are lent
unfoldable pub case_of : List ℕ → ℕ → Case
case_of s flags = let others = case_from flags (records_of s) [] in choose too_long s then refused_case (record { number = 1; place = 0 }) else others

-- What our own crates promise each other; nothing here has to be believed.
-- The bindings that the table of fits turns away, and the first of them. Refusal 11 of the scope.
use Rattle.std.specs.Prelude.{ℕ, ◌<◌, ◌≤◌, ◌≡◌, Bool, true, false, Option, Some, None, List, [], get_or}
use Rattle.scheme.specs.Sorts.{o}
use Rattle.scheme.specs.Types.{state, fits}
use Rattle.casefile.specs.Fields.{word}
use Rattle.casefile.specs.Records.{Record}
use Rattle.casefile.specs.Kinds.{nonterminal, binding, payloads}
use Rattle.casefile.specs.Tables.{signatures_of, types_of}
use Rattle.index.specs.layout.Layout.{max_bindings}
use Rattle.index.specs.entries.Index.{Indexed}
use Rattle.index.specs.entries.Tests.{Fitting}
use Rattle.fits.specs.declared.masks.Row.{Row}
use Rattle.fits.specs.fits.Filled.{fits_at, Fitted, TypesAndSorts}

-- r says whether type t fits sort s, where the table has the types and the sorts of the index
abbrev pub TestsFit : List ℕ → List ℕ → List Row → ℕ → ℕ → Bool → Type 0
TestsFit file index fit t s r =
    (types sorts : ℕ) (rs : List Record) → TypesAndSorts file index types sorts rs → Fitted fit types sorts rs → t < types → s ≤ sorts → r ≡ fits_at rs t s

-- the type of a binding with payload p fits its nonterminal's sort
abbrev pub binding_fits : List Record → List ℕ → Bool
binding_fits rs p = fits (get_or (types_of rs) (word p 2) (state 0)) (get_or (signatures_of rs) (word p 0) o)

-- the index has the bindings and the nonterminals, whose numbers have entries, and the types and the sorts, which the table has too
pub record Offered (file index : List ℕ) (fit : List Row) (bindings nonterminals types sorts : ℕ) (rs : List Record) : Type 0 where
  pub bindings_there : Indexed file index binding bindings rs
  pub bindings_whole : Fitting binding bindings rs
  pub few_bindings : bindings ≤ max_bindings
  pub nonterminals_there : Indexed file index nonterminal nonterminals rs
  pub nonterminals_whole : Fitting nonterminal nonterminals rs
  pub nonterminals_named : (i : ℕ) → i < bindings → word (get_or (payloads binding rs) i []) 0 < nonterminals
  pub types_named : (i : ℕ) → i < bindings → word (get_or (payloads binding rs) i []) 2 < types
  pub sorts_named : (f : ℕ) → f < nonterminals → word (get_or (payloads nonterminal rs) f []) 0 ≤ sorts
  pub listed : TypesAndSorts file index types sorts rs
  pub table : Fitted fit types sorts rs

-- r is the number of the first of a given number of bindings that does not fit, or none where all fit
pub record FirstMisfit (rs : List Record) (bindings : ℕ) (r : Option ℕ) : Type 0 where
  pub within : (i : ℕ) → r ≡ Some i → i < bindings
  pub fit_before : (i : ℕ) → r ≡ Some i → (k : ℕ) → k < i → binding_fits rs (get_or (payloads binding rs) k []) ≡ true
  pub misfit_there : (i : ℕ) → r ≡ Some i → binding_fits rs (get_or (payloads binding rs) i []) ≡ false
  pub all_fit : r ≡ None → (k : ℕ) → k < bindings → binding_fits rs (get_or (payloads binding rs) k []) ≡ true

-- the answer, whatever records the file has that agree with the arrays
abbrev pub FindsMisfit : List ℕ → List ℕ → List Row → ℕ → Option ℕ → Type 0
FindsMisfit file index fit bindings r =
    (nonterminals types sorts : ℕ) (rs : List Record) → Offered file index fit bindings nonterminals types sorts rs → FirstMisfit rs bindings r

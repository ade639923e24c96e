-- The kinds by their numbers.
use mathlib.Core.Path.{◌≡◌, refl}
use Rattle.casefile.specs.Kinds.{number}
use Rattle.records.specs.kind.Kinds.{kind_as, kind_number}
use Rattle.records.specs.declared.kind.Kind.{Kind}
use Rattle.records.specs.declared.kind.Kind.TheVariants.{Sort, Constructor, Nonterminal, Rule, States, Transition, «Type», Binding, Path}

-- a kind has the number that it has in the definitions
pub number_as : (k : Kind) → kind_number k ≡ number (kind_as k)
unfolding number
number_as Sort = refl
number_as Constructor = refl
number_as Nonterminal = refl
number_as Rule = refl
number_as States = refl
number_as Transition = refl
number_as «Type» = refl
number_as Binding = refl
number_as Path = refl

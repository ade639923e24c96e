-- What our own crates promise each other; nothing here has to be believed.
-- The kinds of records as those of the definitions.
use Rattle.std.specs.Prelude.{ℕ, ◌≡◌, Result, MatchResult}
use Rattle.std.proofs.Math.Option.{none, some}
use Rattle.casefile.specs.Kinds
use Rattle.casefile.specs.Kinds.{number, kind_of}
use Rattle.records.specs.declared.refusal.Fault.{Fault}
use Rattle.records.specs.declared.refusal.Fault.TheVariants.{WrongKind}
use Rattle.records.specs.declared.kind.Kind.{Kind}
use Rattle.records.specs.declared.kind.Kind.TheVariants.{Sort, Constructor, Nonterminal, Rule, States, Transition, «Type», Binding, Path}

-- a kind as one of the definitions
abbrev pub kind_as : Kind → Kinds.Kind
kind_as Sort = Kinds.sort
kind_as Constructor = Kinds.constructor
kind_as Nonterminal = Kinds.nonterminal
kind_as Rule = Kinds.rule
kind_as States = Kinds.states
kind_as Transition = Kinds.transition
kind_as «Type» = Kinds.type
kind_as Binding = Kinds.binding
kind_as Path = Kinds.path

-- its number
abbrev pub kind_number : Kind → ℕ
kind_number Sort = 1
kind_number Constructor = 2
kind_number Nonterminal = 3
kind_number Rule = 4
kind_number States = 5
kind_number Transition = 6
kind_number «Type» = 7
kind_number Binding = 8
kind_number Path = 9

-- the kind that has a number by the definitions, or a fault where none has it
abbrev pub Decodes : ℕ → Result Kind Fault → Type 0
Decodes n r = MatchResult r (λ kind. kind_of n ≡ some (kind_as kind)) (λ fault. (fault ≡ WrongKind) × (kind_of n ≡ none))

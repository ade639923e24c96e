-- Why the bindings of a case were dropped, and the numbers that say so. Note 2 of the change requests.
use Rattle.std.specs.Prelude.{ℕ, zero, suc, ◌+◌, ◌-◌, List, [], ◌∷◌, ◌++◌, eqb, length, get_or}
use Rattle.std.proofs.Math.Option.{Option, none, some}
use Rattle.scheme.specs.Lists.{choose◌then◌else◌}
use Rattle.scheme.specs.Reduction.{Plan}
use Rattle.scheme.specs.Types.{Ty, state, arrow, same}
use Rattle.scheme.specs.Typing.{Automaton, Binding}
use Rattle.scheme.specs.Rounds.{after}
use Rattle.scheme.specs.Flags.{round_of}
use Rattle.scheme.specs.Reasons.{Reason}
use Rattle.scheme.specs.Acceptance.{start_binding, holds_exactly, binding_reason}

-- the type wanted as it is printed: "`type` with its number if it is no state"
pub data Wanted : Type 0 where
  of_state : ℕ → Wanted
  of_type : ℕ → Wanted

-- the number of a type among those listed
unfoldable pub number_of : Ty → List Ty → ℕ
number_of τ [] = 0
number_of τ (σ ∷ σs) = let more = suc (number_of τ σs) in choose same τ σ then 0 else more

-- a type as it is printed
unfoldable pub wanted_in : List Ty → Ty → Wanted
wanted_in types (state q) = of_state q
wanted_in types (arrow a r) = of_type (number_of (arrow a r) types)

-- what is said of a dropped binding: "its round (from 1), the node of its body in prefix order (from 0) and the type wanted there"
pub record Explanation : Type 0 where
  pub round : ℕ
  pub node : ℕ
  pub wanted : Wanted

-- the explanation for a binding, from its round, its reason and the types listed
unfoldable pub explanation : List Ty → ℕ → Reason → Explanation
explanation types n r = record { round = n; node = r.place; wanted = wanted_in types r.wanted }

-- what is said of binding i: nothing where it is kept; else its reason "under the set as that round began"
unfoldable pub explained : Automaton → Plan → List Ty → List Binding → ℕ → Option Explanation
explained aut plan types offered i =
    let n = round_of (holds_exactly aut plan) offered i in
    let why = binding_reason aut plan (after (holds_exactly aut plan) (n - 1) offered) (get_or offered i start_binding) in
    choose eqb n 0 then none else some (explanation types n why)

-- the type wanted as a number: a state by its own, a type behind the 16 numbers of states
unfoldable pub goal_number : Wanted → ℕ
goal_number (of_state q) = q
goal_number (of_type m) = 16 + m

-- the four numbers of a binding: "round, 0 for kept; node; goal", and a place that is not used yet
unfoldable pub four_numbers : Option Explanation → List ℕ
four_numbers none = 0 ∷ 0 ∷ 0 ∷ 0 ∷ []
four_numbers (some e) = e.round ∷ e.node ∷ goal_number e.wanted ∷ 0 ∷ []

-- those of n bindings from binding i on, in file order
unfoldable pub numbers_from : (ℕ → Option Explanation) → ℕ → ℕ → List ℕ
numbers_from f i zero = []
numbers_from f i (suc n) = four_numbers (f i) ++ numbers_from f (suc i) n

-- those of all bindings offered
unfoldable pub explained_numbers : Automaton → Plan → List Ty → List Binding → List ℕ
explained_numbers aut plan types offered = numbers_from (explained aut plan types offered) 0 (length offered)

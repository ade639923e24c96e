-- THE DEMANDS, for every file and all lent flags: whatever meets demand 1 meets demands 2 and 3; and never both.
use Prim.Native.Nat.{ℕ}
use mathlib.Core.Path.{◌≡◌, refl, sym, subst₂, ◌∙◌}
use mathlib.Core.Bool.{true, false≢true}
use mathlib.Core.List.{List}
use lib.ListN.{length}
use Rattle.scheme.specs.Reduction.{start}
use Rattle.scheme.specs.Replay.{is_error_path}
use Rattle.demands.specs.Answers.{Answer, proved, refuted, answer, flags_after}
use Rattle.demands.specs.Demands.{plan_in, automaton_in, letters_in, Demand1, Demand2, Demand3}
use Rattle.demands.proofs.PlainWords.{meets1}
use Rattle.demands.proofs.Outcomes.{meets2, meets3, refuted_errs}

-- DEMAND 1: what equals the answer and the flags of the definitions, and so all that is said of them in plain words
pub demand1 : (file lent : List ℕ) (a : Answer) (marks : List ℕ) → a ≡ (answer file (length lent)).answer → marks ≡ flags_after file lent → Demand1 file lent a marks
demand1 = meets1

-- DEMAND 2: the greatest consistent subset, and every verdict exactly where it is so
pub demand2 : (file lent : List ℕ) (a : Answer) (marks : List ℕ) → Demand1 file lent a marks → Demand2 file lent a marks
demand2 = meets2

-- DEMAND 3: after `proved`, the safety rule
pub demand3 : (file lent : List ℕ) (a : Answer) (marks : List ℕ) → Demand1 file lent a marks → Demand3 file a
demand3 = meets3

-- what the definitions answer meets demand 1
pub answered : (file lent : List ℕ) → Demand1 file lent (answer file (length lent)).answer (flags_after file lent)
answered file lent = demand1 file lent (answer file (length lent)).answer (flags_after file lent) refl refl

-- NEVER BOTH: for one plan and automaton, no file is proved and another refuted
pub never_both : (f g lent lent' : List ℕ) (k t r n q c : ℕ) → plan_in f ≡ plan_in g → automaton_in f ≡ automaton_in g
    → (answer f (length lent)).answer ≡ proved k t r → (answer g (length lent')).answer ≡ refuted n q c → ⊥
never_both f g lent lent' k t r n q c same_plan same_automaton hp hr =
    let rule = demand3 f lent (answer f (length lent)).answer (flags_after f lent) (answered f lent) k t r hp in
    false≢true (sym (rule.no_error_path (letters_in g)) ∙ subst₂ (λ x y. is_error_path x y (letters_in g) start 0 ≡ true) (sym same_automaton) (sym same_plan) (refuted_errs g lent' n q c hr))

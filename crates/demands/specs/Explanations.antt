-- What is promised of the explanations, for every file: which bindings were dropped, in which round, and why. Note 2 of the change requests.
use Rattle.std.specs.Prelude.{ℕ, ◌+◌, ◌*◌, ◌-◌, ◌<◌, ◌≤◌, ◌≡◌, true, false, length, get_or, drop, replicate}
use mathlib.Core.List.{List, [], ◌++◌, Memᴰ}
use Rattle.std.proofs.Math.Option.{Option, none, some}
use Rattle.scheme.specs.Terms.{Head, nt}
use Rattle.scheme.specs.Prefix.{Node, flat}
use Rattle.scheme.specs.Reduction.{Plan, body}
use Rattle.scheme.specs.Types.{Ty, state, domains}
use Rattle.scheme.specs.Typing.{Automaton, Binding, head_types}
use Rattle.scheme.specs.ReasonRules.{LeadsOff, ReasonByRules}
use Rattle.scheme.specs.Rounds.{after}
use Rattle.scheme.specs.Flags.{is_kept, flags_after_rounds, kept_flags}
use Rattle.scheme.specs.Acceptance.{start_binding, holds_exactly}
use Rattle.casefile.specs.Records.{Record, records_of, listed}
use Rattle.casefile.specs.Tables.{plan_of, automaton_of, types_of, bindings_of}
use Rattle.casefile.specs.Cases.{Case, refused_case, binding_case, path_case, case_of}
use Rattle.casefile.specs.Explanations.{Wanted, of_state, of_type, Explanation, explained, four_numbers, explained_numbers}
use Rattle.demands.specs.Answers.{Answer, answer}
use Rattle.demands.specs.Demands.{plan_in, automaton_in, offered_in, Demand3}

-- the tool lends its own flags, as many as a file has bindings at most
abbrev pub most_bindings : ℕ
most_bindings = 1024

-- the numbers that are written: none for a refusal or a path
unfoldable pub numbers_of : Case → List ℕ
numbers_of (refused_case r) = []
numbers_of (binding_case rs) = explained_numbers (automaton_of rs) (plan_of rs) (types_of rs) (bindings_of rs)
numbers_of (path_case rs letters) = []

-- the lent numbers afterwards: those written, and past them as they were
unfoldable pub numbers_after : List ℕ → List ℕ → List ℕ
numbers_after file lent = let w = numbers_of (case_of file most_bindings) in w ++ drop (length w) lent

-- the types that a file lists
abbrev pub types_in : List ℕ → List Ty
types_in file = types_of (listed (records_of file))

-- a type is printed as a state's number, or as the number of a type that is listed
pub data Names (types : List Ty) : Wanted → Ty → Type 0 where
  a_state : (q : ℕ) → Names types (of_state q) (state q)
  a_type : (m : ℕ) {τ : Ty} → m < length types → get_or types m (state 0) ≡ τ → ((q : ℕ) → τ ≡ state q → ⊥) → Names types (of_type m) τ

-- a node where there is none
abbrev no_node : Node
no_node = record { head = nt 0; count = 0 }

-- The explanation e of binding i is true, for all that was offered.
pub record TrueExplanation (aut : Automaton) (plan : Plan) (types : List Ty) (offered : List Binding) (i : ℕ) (e : Explanation) : Type 0 where
  -- the round is the true one, counted from 1: the binding is kept after one round less, and gone after it
  pub from_one : 1 ≤ e.round
  pub kept_before : is_kept (get_or (flags_after_rounds (holds_exactly aut plan) offered (e.round - 1) (replicate (length offered) 1)) i 0) ≡ true
  pub gone_after : is_kept (get_or (flags_after_rounds (holds_exactly aut plan) offered e.round (replicate (length offered) 1)) i 0) ≡ false
  -- the node is one of its body, in prefix order from 0: a head with so many arguments
  pub head : Head
  pub count : ℕ
  pub inside : e.node < length (flat (body plan (get_or offered i start_binding).nonterminal))
  pub is_node : get_or (flat (body plan (get_or offered i start_binding).nonterminal)) e.node no_node ≡ record { head = head; count = count }
  -- the type wanted there is the one that the search reaches under the set as that round began, and it is printed
  pub goal : Ty
  pub is_reached : ReasonByRules (λ a b. a ≡ b) aut plan (after (holds_exactly aut plan) (e.round - 1) offered) (get_or offered i start_binding) e.node goal
  pub is_printed : Names types e.wanted goal
  -- no type of that node's head leads to it under that set
  pub no_type_leads : (τ : Ty) → Memᴰ τ (head_types aut (after (holds_exactly aut plan) (e.round - 1) offered) (domains (get_or offered i start_binding).type) head)
      → LeadsOff (λ a b. a ≡ b) count goal τ → ⊥

-- What is said of binding i is true: it is kept when the rounds have ended, or it was dropped and its explanation is true.
pub data TrueOf (aut : Automaton) (plan : Plan) (types : List Ty) (offered : List Binding) (i : ℕ) : Option Explanation → Type 0 where
  is_kept_law : is_kept (get_or (kept_flags (holds_exactly aut plan) offered) i 0) ≡ true → TrueOf aut plan types offered i none
  is_dropped : {e : Explanation} → is_kept (get_or (kept_flags (holds_exactly aut plan) offered) i 0) ≡ false → TrueExplanation aut plan types offered i e → TrueOf aut plan types offered i (some e)

-- THE EXPLANATIONS: a is the answer, `numbers` the lent numbers afterwards.
pub record Explains (file lent : List ℕ) (a : Answer) (numbers : List ℕ) : Type 0 where
  -- the answer is that of the judge with enough flags, and every lent number afterwards is that of the definition
  pub is_answer : a ≡ (answer file most_bindings).answer
  pub are_numbers : numbers ≡ numbers_after file lent
  -- and so: a refusal and a path change nothing, and nothing past the bindings is changed
  pub untouched : ((rs : List Record) → case_of file most_bindings ≡ binding_case rs → ⊥) → numbers ≡ lent
  pub past_untouched : (k : ℕ) → 4 * length (offered_in file) ≤ k → get_or numbers k 0 ≡ get_or lent k 0
  -- each binding has four numbers, of what is said of it, and that is true
  pub says : (rs : List Record) → case_of file most_bindings ≡ binding_case rs → (i : ℕ) → i < length (offered_in file)
      → (k : ℕ) → k < 4 → get_or numbers (4 * i + k) 0 ≡ get_or (four_numbers (explained (automaton_in file) (plan_in file) (types_in file) (offered_in file) i)) k 0
  pub true_of : (rs : List Record) → case_of file most_bindings ≡ binding_case rs → (i : ℕ) → i < length (offered_in file)
      → TrueOf (automaton_in file) (plan_in file) (types_in file) (offered_in file) i (explained (automaton_in file) (plan_in file) (types_in file) (offered_in file) i)
  -- after `proved` the safety rule holds here too
  pub safe : Demand3 file a

-- What a buyer is promised of every answer: three demands, for every file and all lent flags.
use Rattle.std.specs.Prelude.{ℕ, ◌+◌, ◌<◌, ◌≤◌, ◌≡◌, ◌⊎◌, length, get_or}
use mathlib.Core.List.{List, [], Memᴰ}
use Rattle.scheme.specs.Lists.{Subset}
use Rattle.scheme.specs.Reduction.{Plan}
use Rattle.scheme.specs.Typing.{Automaton, Binding}
use Rattle.scheme.specs.TypingRules.{HoldsByRules}
use Rattle.scheme.specs.Rounds.{round, after}
use Rattle.scheme.specs.Flags.{chosen}
use Rattle.scheme.specs.Acceptance.{start_binding, holds_exactly}
use Rattle.scheme.specs.Replay.{Ending}
use Rattle.scheme.specs.Paths.{starting, Within, ReplaysTo, Ends}
use Rattle.scheme.specs.Safety.{SafetyRule}
use Rattle.casefile.specs.Records.{Record, records_of, listed}
use Rattle.casefile.specs.Kinds.{Kind, payloads}
use Rattle.casefile.specs.Tables.{plan_of, automaton_of, bindings_of}
use Rattle.casefile.specs.Cases.{binding_case, path_case, case_of}
use Rattle.casefile.specs.PathCases.{node_limit, path_answer}
use Rattle.demands.specs.Answers.{Answer, proved, unproved, refuted, refused, answer, path_outcome, flags_after}

-- the plan of a file: "plan and automaton are that file's kinds 1 to 6"
abbrev pub plan_in : List ℕ → Plan
plan_in file = plan_of (listed (records_of file))

-- its automaton
abbrev pub automaton_in : List ℕ → Automaton
automaton_in file = automaton_of (listed (records_of file))

-- the bindings that it offers
abbrev pub offered_in : List ℕ → List Binding
offered_in file = bindings_of (listed (records_of file))

-- its paths; a file that is not refused has at most one
abbrev pub paths_in : List ℕ → List (List ℕ)
paths_in file = payloads Kind.path (listed (records_of file))

-- the letters of its path
abbrev pub letters_in : List ℕ → List ℕ
letters_in file = get_or (paths_in file) 0 []

-- the answer is `proved`, with kept, total and rounds
abbrev pub IsProved : Answer → Type 0
IsProved a = (k t r : ℕ) × (a ≡ proved k t r)

-- the answer is `unproved`, with kept, total and rounds
abbrev pub IsUnproved : Answer → Type 0
IsUnproved a = (k t r : ℕ) × (a ≡ unproved k t r)

-- the answer is `refuted`, with letters, state and constructor
abbrev pub IsRefuted : Answer → Type 0
IsRefuted a = (n q c : ℕ) × (a ≡ refuted n q c)

-- the answer is `refused`, with number and place
abbrev pub IsRefused : Answer → Type 0
IsRefused a = (n p : ℕ) × (a ≡ refused n p)

-- Demand 1 in plain words: a is the answer, `marks` the lent bytes afterwards.
pub record InPlainWords (file lent : List ℕ) (a : Answer) (marks : List ℕ) : Type 0 where
  -- a refusal has a number from 1 to 15, "and changes no flag or other lent byte"
  pub refused_number : (n p : ℕ) → a ≡ refused n p → (1 ≤ n) × (n ≤ 15)
  pub refused_untouched : (n p : ℕ) → a ≡ refused n p → marks ≡ lent
  -- "`refuted` .., flags untouched"
  pub refuted_untouched : (n q c : ℕ) → a ≡ refuted n q c → marks ≡ lent
  -- "A file without a path is a binding case": it is refused, or else proved or unproved; one with a path is refused or refuted
  pub without_path : paths_in file ≡ [] → IsRefused a ⊎ (IsProved a ⊎ IsUnproved a)
  pub with_path : (paths_in file ≡ [] → ⊥) → IsRefused a ⊎ IsRefuted a
  -- there are as many bytes as before, and "bytes past the count are untouched"
  pub same_length : length marks ≡ length lent
  pub past_untouched : (i : ℕ) → length (offered_in file) ≤ i → get_or marks i 0 ≡ get_or lent i 0

-- each binding of a set holds, by the typing rules, under the set
abbrev pub Consistent : Automaton → Plan → List Binding → Type 0
Consistent aut plan s = (b : Binding) → Memᴰ b s → HoldsByRules aut plan s b

-- A binding case: a is the answer, `marks` the flags afterwards.
pub record Shrinks (aut : Automaton) (plan : Plan) (offered : List Binding) (marks : List ℕ) (a : Answer) : Type 0 where
  -- the kept set and the count of rounds
  pub kept : List Binding
  pub rounds : ℕ
  -- the kept set is the greatest consistent part of what was offered
  pub is_offered : Subset kept offered
  pub is_consistent : Consistent aut plan kept
  pub is_greatest : (s : List Binding) → Consistent aut plan s → Subset s offered → Subset s kept
  -- the flags mark it: "1 for a kept binding and 0 for a dropped one"
  pub is_marked : chosen marks offered ≡ kept
  pub are_bits : (i : ℕ) → i < length offered → (get_or marks i 0 ≡ 0) ⊎ (get_or marks i 0 ≡ 1)
  -- it is what that count of rounds leaves, after which a further round drops nothing, and after fewer it does
  pub is_left : after (holds_exactly aut plan) rounds offered ≡ kept
  pub is_final : round (holds_exactly aut plan) kept ≡ kept
  pub is_least : (n : ℕ) → n < rounds → round (holds_exactly aut plan) (after (holds_exactly aut plan) n offered) ≡ after (holds_exactly aut plan) n offered → ⊥
  -- "it is never more than the bindings dropped"
  pub is_bounded : rounds + length kept ≤ length offered
  -- proved exactly when the start symbol at state 0 is kept
  pub verdict : (Memᴰ start_binding kept × (a ≡ proved (length kept) (length offered) rounds)) ⊎ ((Memᴰ start_binding kept → ⊥) × (a ≡ unproved (length kept) (length offered) rounds))

-- A path case: a is the answer.
pub record PathJudged (aut : Automaton) (plan : Plan) (letters : List ℕ) (a : Answer) : Type 0 where
  -- refuted exactly when the path replays within the limit to a constructor with no transition there
  pub refutes : (q c : ℕ) → ReplaysTo aut plan (Within node_limit) letters starting q c → a ≡ refuted (length letters) q c
  pub refuted_replays : (n q c : ℕ) → a ≡ refuted n q c → (length letters ≡ n) × ReplaysTo aut plan (Within node_limit) letters starting q c
  -- and 13, 14 and 15 are said of the letters that `Ends` says
  pub ending : Ending
  pub ends : Ends aut plan node_limit 0 letters starting ending
  pub says : a ≡ (path_outcome (path_answer ending)).answer

-- DEMAND 1: the answer is that of the definition, and so is every lent byte afterwards.
pub record Demand1 (file lent : List ℕ) (a : Answer) (marks : List ℕ) : Type 0 where
  pub is_answer : a ≡ (answer file (length lent)).answer
  pub are_marks : marks ≡ flags_after file lent
  -- and so, among other things
  pub in_words : InPlainWords file lent a marks

-- DEMAND 2: the kept bindings are the greatest consistent subset; proved, unproved and refuted are said exactly where they are so.
pub record Demand2 (file lent : List ℕ) (a : Answer) (marks : List ℕ) : Type 0 where
  pub of_bindings_law : (rs : List Record) → case_of file (length lent) ≡ binding_case rs → Shrinks (automaton_in file) (plan_in file) (offered_in file) marks a
  pub of_path_law : (rs : List Record) (ls : List ℕ) → case_of file (length lent) ≡ path_case rs ls → PathJudged (automaton_in file) (plan_in file) (letters_in file) a

-- DEMAND 3: after `proved` the safety rule holds for that file's plan and automaton.
abbrev pub Demand3 : List ℕ → Answer → Type 0
Demand3 file a = (kept total rounds : ℕ) → a ≡ proved kept total rounds → SafetyRule (automaton_in file) (plan_in file)

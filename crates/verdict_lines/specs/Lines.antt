-- The lines of the four answers, and that of a dropped binding, as bytes in ASCII. Section "Verdicts" of the scope, and Note 2 of the
-- change requests.
use Rattle.std.specs.Prelude.{ℕ, zero, suc, ◌+◌, ◌-◌, ◌/◌, ◌%◌, ◌≤◌, ◌≡◌, List, [], ◌∷◌, ◌++◌, ltb, length, take}
use Rattle.scheme.specs.Lists.{choose◌then◌else◌}
use Rattle.casefile.specs.Explanations.{Wanted, of_state, of_type, Explanation}
use Rattle.demands.specs.Answers.{Answer, proved, unproved, refuted, refused}

-- `proved `
abbrev pub proved_word : List ℕ
proved_word =
    0x70 ∷ 0x72 ∷ 0x6F ∷ 0x76 ∷ 0x65 ∷ 0x64 ∷ 0x20 ∷ []

-- `unproved `
abbrev pub unproved_word : List ℕ
unproved_word =
    0x75 ∷ 0x6E ∷ 0x70 ∷ 0x72 ∷ 0x6F ∷ 0x76 ∷ 0x65 ∷ 0x64 ∷ 0x20 ∷ []

-- ` of `
abbrev pub of_word : List ℕ
of_word =
    0x20 ∷ 0x6F ∷ 0x66 ∷ 0x20 ∷ []

-- ` rounds `
abbrev pub rounds_word : List ℕ
rounds_word =
    0x20 ∷ 0x72 ∷ 0x6F ∷ 0x75 ∷ 0x6E ∷ 0x64 ∷ 0x73 ∷ 0x20 ∷ []

-- `refuted letters `
abbrev pub refuted_word : List ℕ
refuted_word =
    0x72 ∷ 0x65 ∷ 0x66 ∷ 0x75 ∷ 0x74 ∷ 0x65 ∷ 0x64 ∷ 0x20 ∷ 0x6C ∷ 0x65 ∷ 0x74 ∷ 0x74 ∷ 0x65 ∷ 0x72 ∷ 0x73 ∷ 0x20 ∷ []

-- ` state `
abbrev pub state_word : List ℕ
state_word =
    0x20 ∷ 0x73 ∷ 0x74 ∷ 0x61 ∷ 0x74 ∷ 0x65 ∷ 0x20 ∷ []

-- ` constructor `
abbrev pub constructor_word : List ℕ
constructor_word =
    0x20 ∷ 0x63 ∷ 0x6F ∷ 0x6E ∷ 0x73 ∷ 0x74 ∷ 0x72 ∷ 0x75 ∷ 0x63 ∷ 0x74 ∷ 0x6F ∷ 0x72 ∷ 0x20 ∷ []

-- `refused `
abbrev pub refused_word : List ℕ
refused_word =
    0x72 ∷ 0x65 ∷ 0x66 ∷ 0x75 ∷ 0x73 ∷ 0x65 ∷ 0x64 ∷ 0x20 ∷ []

-- ` at `
abbrev pub at_word : List ℕ
at_word =
    0x20 ∷ 0x61 ∷ 0x74 ∷ 0x20 ∷ []

-- `binding `
abbrev pub binding_word : List ℕ
binding_word =
    0x62 ∷ 0x69 ∷ 0x6E ∷ 0x64 ∷ 0x69 ∷ 0x6E ∷ 0x67 ∷ 0x20 ∷ []

-- ` round `
abbrev pub round_word : List ℕ
round_word =
    0x20 ∷ 0x72 ∷ 0x6F ∷ 0x75 ∷ 0x6E ∷ 0x64 ∷ 0x20 ∷ []

-- ` node `
abbrev pub node_word : List ℕ
node_word =
    0x20 ∷ 0x6E ∷ 0x6F ∷ 0x64 ∷ 0x65 ∷ 0x20 ∷ []

-- ` goal state `
abbrev pub goal_state_word : List ℕ
goal_state_word =
    0x20 ∷ 0x67 ∷ 0x6F ∷ 0x61 ∷ 0x6C ∷ 0x20 ∷ 0x73 ∷ 0x74 ∷ 0x61 ∷ 0x74 ∷ 0x65 ∷ 0x20 ∷ []

-- ` goal type `
abbrev pub goal_type_word : List ℕ
goal_type_word =
    0x20 ∷ 0x67 ∷ 0x6F ∷ 0x61 ∷ 0x6C ∷ 0x20 ∷ 0x74 ∷ 0x79 ∷ 0x70 ∷ 0x65 ∷ 0x20 ∷ []

-- a digit below 10 as a byte: `0` is 0x30
abbrev pub digit : ℕ → ℕ
digit d = 0x30 + d

-- a number below 10 ^ fuel in decimal: one digit, or the last digit behind those of a tenth of it
unfoldable pub numeral_within : ℕ → ℕ → List ℕ
numeral_within zero n = []
numeral_within (suc fuel) n =
    let front = numeral_within fuel (n / 10) in
    choose ltb n 10 then digit n ∷ [] else front ++ (digit (n % 10) ∷ [])

-- "All numbers are decimal": the digits, with no zeros in front; 0 is `0`
unfoldable pub numeral : ℕ → List ℕ
numeral n = numeral_within (suc n) n

-- a word and a number behind it
unfoldable pub numbered : List ℕ → ℕ → List ℕ
numbered word n = word ++ numeral n

-- the line of an answer, without a line end
unfoldable pub line_of : Answer → List ℕ
line_of (proved k t r) = numbered proved_word k ++ numbered of_word t ++ numbered rounds_word r
line_of (unproved k t r) = numbered unproved_word k ++ numbered of_word t ++ numbered rounds_word r
line_of (refuted n q c) = numbered refuted_word n ++ numbered state_word q ++ numbered constructor_word c
line_of (refused n p) = numbered refused_word n ++ numbered at_word p

-- the type wanted, as the last part of a line: "`type` with its number if it is no state"
unfoldable pub wanted_part : Wanted → List ℕ
wanted_part (of_state q) = numbered goal_state_word q
wanted_part (of_type m) = numbered goal_type_word m

-- the line of a binding that was dropped, without a line end
unfoldable pub reason_line : ℕ → Explanation → List ℕ
reason_line binding e = numbered binding_word binding ++ numbered round_word e.round ++ numbered node_word e.node ++ wanted_part e.wanted

-- a goal that is lent as a number, read as the type wanted: a state below 16, a type behind these numbers
unfoldable pub wanted_as : ℕ → Wanted
wanted_as goal = choose ltb goal 16 then of_state goal else of_type (goal - 16)

-- what the numbers of a dropped binding say: its round, the node and the goal
abbrev pub explanation_as : ℕ → ℕ → ℕ → Explanation
explanation_as n place goal = record { round = n; node = place; wanted = wanted_as goal }

-- Where there is room in a line for a text from a place on, `after` has it there, behind what stood in front of that
-- place, and r is the place behind it.
pub record Puts (line : List ℕ) (from : ℕ) (text after : List ℕ) (r : ℕ) : Type 0 where
  pub is_place : from + length text ≤ length line → r ≡ from + length text
  pub is_text : from + length text ≤ length line → take r after ≡ take from line ++ text

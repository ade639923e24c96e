-- Path cases: `refuted`, or refusals 13 to 15. Sections "Reduction and replay" and "What is turned away" of the scope.
use Rattle.std.specs.Prelude.{ℕ, List}
use Rattle.scheme.specs.Reduction.{Plan, start}
use Rattle.scheme.specs.Typing.{Automaton}
use Rattle.scheme.specs.Replay.{Ending, refutes, lost, outgrown, elsewhere, replay}
use Rattle.casefile.specs.Refusals.{Refusal}

-- "at most 4,096 nodes counted as a tree"
abbrev pub node_limit : ℕ
node_limit = 4096

-- the answer to a path case
pub data PathAnswer : Type 0 where
  -- `refuted` "with letters, state and constructor"
  refuted_path : ℕ → ℕ → ℕ → PathAnswer
  refused_path : Refusal → PathAnswer

-- 13: "a letter that cannot be followed"; 14: "the letter's unfolding exceeds 4,096 nodes"; 15: "path ends anywhere else"
unfoldable pub path_answer : Ending → PathAnswer
path_answer (refutes n q c) = refuted_path n q c
path_answer (lost n) = refused_path (record { number = 13; place = n })
path_answer (outgrown n) = refused_path (record { number = 14; place = n })
path_answer (elsewhere n) = refused_path (record { number = 15; place = n })

-- "A replay starts with the start symbol and state 0"; places of letters count from 0
unfoldable pub replayed : Automaton → Plan → List ℕ → PathAnswer
replayed aut plan letters = path_answer (replay node_limit aut plan 0 letters start 0)

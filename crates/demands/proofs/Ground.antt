-- The three tables of specs/Ground.antt hold, by computation.
use mathlib.Core.Path.{◌≡◌, refl}
use mathlib.Core.List.{[], ◌∷◌, ◌++◌, map}
use lib.ListN.{length}
use Rattle.scheme.specs.Lists.{found, any, all, keep_if, select, last_or, first_of, found_or}
use Rattle.scheme.specs.Sorts.{same_sort, arguments, tree_sort}
use Rattle.scheme.specs.Terms.{◌++ᵗ◌, countᵗ, term_at, nodes, applied, put}
use Rattle.scheme.specs.Prefix.{takeᵗ, dropᵗ, terms, complete, depth}
use Rattle.scheme.specs.Sorting.{head_sort, sort_of}
use Rattle.scheme.specs.Reduction.{body}
use Rattle.scheme.specs.Types.{members, same, takes, domains, off, final, fits}
use Rattle.scheme.specs.Typing.{has, types_at, con_types, bound, head_types, holds}
use Rattle.scheme.specs.Rounds.{round, after, kept, count_to, rounds}
use Rattle.scheme.specs.Flags.{bit, is_kept, chosen, retested, round_flags, round_of, kept_flags}
use Rattle.scheme.specs.Flags
use Rattle.scheme.specs.Replay.{argument, descend, follow, unless, stuck, arrived, exceeds, followed, replay}
use Rattle.scheme.specs.Reasons.{leads_to, reason, reason_for}
use Rattle.scheme.specs.Acceptance.{holds_exactly, binding_reason, is_start, accepts}
use Rattle.casefile.specs.Fields.{field}
use Rattle.casefile.specs.Records.{whole, record_at, walk, is_remark, counting, records_of, listed}
use Rattle.casefile.specs.Remarks.{bytes_at, copied, without_remarks}
use Rattle.casefile.specs.Kinds.{number, kind_of, of_kind, payloads, count}
use Rattle.casefile.specs.Tables.{grow, sort_from, sorts_of, arities_of, signatures_of, cells_of, head_of, nodes_of, first_term, body_of, plan_of, state_count_spec, transition_of, transitions_of, targets_at, automaton_of, words, members_at, arrow_from, type_from, types_of, bindings_of}
use Rattle.casefile.specs.Refusals.{first, too_long, wrong_length, too_many, wrong_cell_spec, wrong_targets_spec, same_bytes_spec, ascends_from, ascends, before, follows, too_large, out_of_range, repeats, misplaced, refuse_as, refuse_kind, last_kind, refuse_record, wrong_body, wrong_bodies, wrong_start, misfits, refuse_whole}
use Rattle.casefile.specs.Cases.{unless_refused, accepted_case, case_from, case_of}
use Rattle.casefile.specs.PathCases.{path_answer, replayed}
use Rattle.casefile.specs.BindingCases.{shrunk}
use Rattle.casefile.specs.Explanations.{number_of, wanted_in, explanation, explained, goal_number, four_numbers, numbers_from, explained_numbers}
use Rattle.demands.specs.Answers.{refusal, binding_outcome, path_outcome, outcome_of, answer, flags_after}
use Rattle.demands.specs.Explanations.{most_bindings, numbers_of, numbers_after}
use Rattle.demands.specs.Ground.{Line, ReasonLine, starred, small, reasons, E, plan_e, types01, bind_s0, bind_f1, record_of}

-- a line with what the definitions say in the place of what is expected; it unfolds all that an answer is made of
pub run : Line → Line
unfolding found any all keep_if select last_or same_sort arguments tree_sort ◌++ᵗ◌ countᵗ term_at nodes applied put takeᵗ dropᵗ terms complete depth head_sort sort_of body members same takes domains final fits has types_at con_types bound head_types holds round after kept count_to rounds bit is_kept chosen retested round_flags Flags.flags_after_rounds kept_flags argument descend follow unless stuck arrived exceeds followed replay holds_exactly is_start accepts field whole record_at walk is_remark counting records_of number kind_of of_kind payloads count grow sort_from sorts_of arities_of signatures_of cells_of head_of nodes_of first_term body_of plan_of state_count_spec transition_of transitions_of targets_at automaton_of words members_at arrow_from type_from types_of bindings_of first too_long wrong_length too_many wrong_cell_spec wrong_targets_spec same_bytes_spec ascends_from ascends before follows too_large out_of_range repeats misplaced refuse_as refuse_kind last_kind refuse_record wrong_body wrong_bodies wrong_start misfits refuse_whole unless_refused accepted_case case_from case_of path_answer replayed shrunk refusal binding_outcome path_outcome outcome_of answer flags_after
run l = record { file = l.file; lent = l.lent; says = (answer l.file (length l.lent)).answer; flags = flags_after l.file l.lent }

-- the same for a line of the explanations; it unfolds what they are made of besides
pub explain : ReasonLine → ReasonLine
unfolding run first_of found_or off leads_to reason reason_for Flags.falls_in round_of binding_reason number_of wanted_in explanation explained goal_number four_numbers numbers_from explained_numbers numbers_of numbers_after
explain l = record { file = l.file; lent = l.lent; says = (answer l.file most_bindings).answer; numbers = numbers_after l.file l.lent }

-- E has 154 bytes
pub ELength : length E ≡ 154
ELength = refl

-- E is what is left of it with remarks between its records
pub EAgain : without_remarks (record_of 0x8000 [] ++ plan_e ++ record_of 0xFFFF (8 ∷ 0 ∷ []) ++ types01 ++ bind_s0 ++ record_of 0x9999 (0 ∷ []) ++ bind_f1) ≡ E
unfolding without_remarks copied bytes_at records_of counting is_remark walk whole record_at listed field
EAgain = refl

-- THE STARRED LINES, answers and flags
pub starred_lines : map run starred ≡ starred
unfolding run
starred_lines = refl

-- the small inputs of the table of refusals, and the lines without a star
pub small_lines : map run small ≡ small
unfolding run
small_lines = refl

-- THE EXPLANATIONS of worked cases, answers and numbers
pub reason_lines : map explain reasons ≡ reasons
unfolding explain
reason_lines = refl

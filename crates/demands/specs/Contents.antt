-- What an answer depends on: kinds and payloads of the records that count, not their places. Note 1 of the change requests.
use Rattle.std.specs.Prelude.{ℕ, ◌≡◌, List, length}
use Rattle.casefile.specs.Refusals.{Refusal}
use Rattle.casefile.specs.Cases.{refused_case, case_of}
use Rattle.demands.specs.Answers.{answer, flags_after}

-- 1 to 12 do not refuse a file, where `flags` flag bytes are lent: it is a binding case or a path case
abbrev pub IsCase : List ℕ → ℕ → Type 0
IsCase file flags = (r : Refusal) → case_of file flags ≡ refused_case r → ⊥

-- two files get the same answer, and the lent flags are the same afterwards
pub record SameVerdict (f g lent : List ℕ) : Type 0 where
  pub same_answer : (answer f (length lent)).answer ≡ (answer g (length lent)).answer
  pub same_flags : flags_after f lent ≡ flags_after g lent

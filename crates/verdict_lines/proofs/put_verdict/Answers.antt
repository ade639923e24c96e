-- `put_verdict` meets its contract.
use native.Mathlib.Omega.{arith}
use Rattle.verdict_lines.proofs.Putting.{says_proved, says_unproved, says_refuted, says_refused}
use borrow.Author.Rules.{rules}
use Rattle.verdict_lines.proofs.put_verdict.Goals as goal

pub returns-in-Proved : goal.returns-in-Proved
returns-in-Proved c = let all = says_proved _ _ _ _ _ _ _ c.in-Proved.is (omega arith) (omega arith) (omega arith) (search rules) c.put_counts.ensures in record { upper_bound = all.0; prefix_len = all.1.0; line_after = all.1.1 }

pub returns-in-Unproved : goal.returns-in-Unproved
returns-in-Unproved c = let all = says_unproved _ _ _ _ _ _ _ c.in-Unproved.is (omega arith) (omega arith) (omega arith) (search rules) c.put_counts-in-Unproved.ensures in record { upper_bound = all.0; prefix_len = all.1.0; line_after = all.1.1 }

pub returns-in-Refuted : goal.returns-in-Refuted
returns-in-Refuted c = let all = says_refuted _ _ _ _ _ _ _ c.in-Refuted.is (omega arith) (omega arith) (omega arith) (search rules) c.put_refuted.ensures in record { upper_bound = all.0; prefix_len = all.1.0; line_after = all.1.1 }

pub returns-in-Refused : goal.returns-in-Refused
returns-in-Refused c = let all = says_refused _ _ _ _ _ _ c.in-Refused.is (omega arith) (omega arith) (search rules) c.put_refused.ensures in record { upper_bound = all.0; prefix_len = all.1.0; line_after = all.1.1 }

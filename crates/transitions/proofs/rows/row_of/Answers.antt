-- `row_of` meets its contract.
use native.Mathlib.Omega.{arith}
use Rattle.transitions.proofs.rows.Rows.{row_past, row_none, row_there}
use Rattle.transitions.proofs.rows.row_of.Goals as goal

pub returns-then-state-ge-MAX_STATES : goal.returns-then-state-ge-MAX_STATES
returns-then-state-ge-MAX_STATES c = row_past (λ l. omega arith)

pub returns-then-row : goal.returns-then-row
returns-then-row c = row_none c.if-state-ge-MAX_STATES.false c.if-c-ge-MAX_CONSTRUCTORS.false c.if-row.true

pub returns-else-row : goal.returns-else-row
returns-else-row c = row_there c.if-state-ge-MAX_STATES.false c.if-c-ge-MAX_CONSTRUCTORS.false c.if-row.false

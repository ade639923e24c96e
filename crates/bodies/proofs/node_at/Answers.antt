-- `node_at` meets its contract.
use Prim.Native.Nat.{◌+◌, ◌*◌}
use mathlib.Core.Path.{◌∙◌}
use native.Mathlib.Omega.{arith}
use Rattle.casefile.proofs.Fields.{is_field_one}
use Rattle.bodies.proofs.Nodes.{field_two}
use Rattle.bodies.proofs.node_at.Goals as goal

pub returns-clause-tag : goal.returns-clause-tag
returns-clause-tag c = is_field_one _ _ _ c.from.ensures (omega (arith, c.type_inv.p (c.args.i * 4)))

pub returns-clause-number : goal.returns-clause-number
returns-clause-number c = field_two _ _ _ _ (omega arith) (omega (arith, c.type_inv.p (c.args.i * 4 + 1))) (omega (arith, c.type_inv.p (c.args.i * 4 + 2))) (c.from-2.ensures ∙ c.from_le_bytes-number.ensures)

pub returns-clause-count : goal.returns-clause-count
returns-clause-count c = is_field_one _ _ _ c.from-3.ensures (omega (arith, c.type_inv.p (c.args.i * 4 + 3)))

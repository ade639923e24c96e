-- `drop_binding` meets its contract.
use native.Mathlib.Omega.{arith}
use Prim.Native.Nat.{◌%◌}
use Rattle.rounds.proofs.dropping.Gone.{places_fit, dropped_one}
use Rattle.rounds.proofs.dropping.drop_binding.Goals as goal

pub overflow_mul-dropped : goal.overflow_mul-dropped
overflow_mul-dropped c = omega (arith, places_fit (c.args.b % 1024) c.words-words.result c.args.sizes.bindings (omega arith) c.words-words.ensures)

pub overflow_mul-total : goal.overflow_mul-total
overflow_mul-total c = omega (arith, places_fit c.total-total.result c.words-words.result c.args.sizes.bindings (omega arith) c.words-words.ensures)

pub overflow_add-total : goal.overflow_add-total
overflow_add-total c = omega (arith, places_fit c.total-total.result c.words-words.result c.args.sizes.bindings (omega arith) c.words-words.ensures)

pub returns : goal.returns
returns c = (c.leave.ensures.0, λ firsts. dropped_one _ _ _ _ _ _ _ _ _ _ _ _ _ c.total-total.ensures c.words-words.ensures c.drop_flag.ensures c.leave.ensures.1 c.join_users.ensures)

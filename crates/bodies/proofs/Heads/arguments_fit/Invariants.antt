-- `arguments_fit` meets its contract: what is left of the arguments leads to the result of all of them.
use Prim.Native.Nat.{◌-◌, ◌<◌}
use Rattle.bodies.proofs.Loop.{Leads}
use Rattle.bodies.proofs.Heads.arguments_fit.Given as goal

abbrev pub invariant-loop : goal.invariant-loop
invariant-loop l = record {
  leads : Leads l.self l.ends l.codes l.depths l.n l.at l.k l.head l.end (l.k - l.counter) l.sort l.deep;
  end_small : l.end < 65536;
  sort_small : l.sort < 65536;
}

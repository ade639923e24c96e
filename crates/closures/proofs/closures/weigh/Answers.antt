-- `weigh` meets its contract.
use Rattle.closures.proofs.closures.Measuring.{weigh_head, weigh_free, weigh_parameter}
use Rattle.closures.proofs.closures.weigh.Goals as goal

pub returns-in_default : goal.returns-in_default
returns-in_default c = weigh_head _ c.head_at.ensures c.in_default.not-Parameter

pub returns-in-Some : goal.returns-in-Some
returns-in-Some c = weigh_parameter _ c.head_at.ensures _ c.in-Parameter.is _ c.closure_at.ensures _ c.in-Some.is _ c.nodes.ensures

pub returns-in-None : goal.returns-in-None
returns-in-None c = weigh_free _ c.head_at.ensures _ c.in-Parameter.is _ c.closure_at.ensures c.in-None.is

use Rattle.engine.proofs.Chains.{none_due}
use Rattle.engine.proofs.engines.Engine.create.Goals as goal

pub returns : goal.returns
returns g c w q = none_due _ _ _ _ _ c.in_ok-point.ensures c.in_ok-nothing_due.ensures (c.admit.ensures q)

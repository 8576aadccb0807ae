use Rattle.std.proofs.Common.{take, sym, subst, arith}
use Rattle.market.specs.Looks.{LowestFrom}
use Rattle.registers.specs.Points.{point_in}
use Rattle.registers.proofs.Arrivals.{lowest_more}
use Rattle.registers.proofs.roll.lowest_of.Goals as goal

pub loop-i-preserved : goal.loop-i-preserved
loop-i-preserved c = subst (LowestFrom (point_in (take _ c.args.records.now)) c.args.number) (sym c.lower_of-lowest.ensures) (lowest_more c.args.records.now c.loop-i.i c.args.number _ c.loop-i.lowest (omega arith) c.loop-i.invariant)

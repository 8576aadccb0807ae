use Rattle.std.proofs.Common.{take}
use Rattle.market.specs.Looks.{LowestFrom}
use Rattle.registers.specs.Points.{point_in}
use Rattle.registers.proofs.roll.lowest_of.Given as goal

abbrev pub invariant-loop-i : goal.invariant-loop-i
invariant-loop-i l = LowestFrom (point_in (take l.i l.records)) l.number l.lowest

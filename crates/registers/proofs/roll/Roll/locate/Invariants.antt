use Rattle.registers.proofs.Arrivals.{Walked}
use Rattle.registers.proofs.roll.Roll.locate.Given as goal

abbrev pub invariant-loop-i : goal.invariant-loop-i
invariant-loop-i l = Walked l.records l.number l.i l.at

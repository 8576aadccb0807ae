use Rattle.std.proofs.Common.{◌-◌, ◌^◌, ◌<◌}
use Rattle.agenda.specs.Earliest.{Earliest}
use Rattle.agenda.proofs.earliest.Given as goal

abbrev pub invariant-loop-point : goal.invariant-loop-point
invariant-loop-point g l = record { in_range : l.from < 2 ^ 64; best : Earliest (g.R.Register.known l.register).look l.upto l.from l.best }

abbrev pub decreases-loop-point : goal.decreases-loop-point
decreases-loop-point g l = 2 ^ 64 - l.from

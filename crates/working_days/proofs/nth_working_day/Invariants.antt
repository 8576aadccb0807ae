use Rattle.std.proofs.Common.{◌≡◌, ◌+◌, ◌<◌}
use Rattle.working_days.specs.Days.{working_between}
use Rattle.working_days.proofs.nth_working_day.Given as goal

abbrev pub invariant-loop-before : goal.invariant-loop-before
invariant-loop-before g l = (l.count ≡ working_between (g.C.Calendar.works l.calendar) l.day (l.before + 1)) × (l.count < l.n)

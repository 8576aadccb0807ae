use Rattle.std.proofs.Common.{◌+◌, ◌≤◌, true, false, sym, arith}
use Rattle.working_days.proofs.Counts.{between_none, between_more, between_grows}
use Rattle.working_days.proofs.nth_working_day.Goals as goal
use Rattle.working_days.proofs.nth_working_day.Goals.{then-works+else-count-n, else-works}

pub loop-before-init : goal.loop-before-init
loop-before-init g c =
    let works = g.C.Calendar.works c.args.calendar.now in
    (sym (between_none works c.args.day (c.args.day + 1) (omega arith)), omega arith)

pub loop-before-preserved : goal.loop-before-preserved
loop-before-preserved g c =
    let more = between_more (g.C.Calendar.works c.args.calendar.now) c.args.day (c.loop-before.before + 1) in
    elim c.if-works.branch [
      | then-works+else-count-n w ↦ (omega (arith, w.count-is, more true (omega arith) w.if-works.ensures), omega (arith, w.count-is, w.if-count-n.false))
      | else-works w ↦ (omega (arith, w.count-is, more false (omega arith) w.if-works.ensures), omega (arith, w.count-is))
    ]

pub returns : goal.returns
returns g c e nth =
    let works = g.C.Calendar.works c.args.calendar.now in
    let day = c.args.day in
    let more = between_more works day e true nth.after (sym nth.works_then) in
    let looked_at : e + 1 ≤ c.loop-before.before + 1 = omega (arith, c.saturating_add-last.ensures) in
    let grows = between_grows works day (e + 1) (c.loop-before.before + 1) looked_at in
    omega (arith, nth.earlier)

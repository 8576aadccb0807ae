use Rattle.std.proofs.Common.{◌≡◌, ◌+◌, ◌^◌, sym, arith}
use Rattle.agenda.proofs.Search.{earliest_more}
use Rattle.agenda.proofs.earliest.Goals as goal

-- one point more was asked: the sooner step is the earliest up to it
pub loop-point-preserved : goal.loop-point-preserved
loop-point-preserved g c =
    let look = (g.R.Register.known c.args.register.now).look in
    let more = earliest_more look c.args.upto c.loop-point.from c.in-Some.point c.in-Some.ensures c.of.result c.loop-point.best (sym c.of.ensures) c.loop-point.invariant.best in
    record { in_range = omega arith; best = rw (c.in-Some-checked_add.ensures.1, c.sooner-best.ensures) more }

-- that was the last number
pub returns-in_default-checked_add : goal.returns-in_default-checked_add
returns-in_default-checked_add g c =
    let look = (g.R.Register.known c.args.register.now).look in
    let more = earliest_more look c.args.upto c.loop-point.from c.in-Some.point c.in-Some.ensures c.of.result c.loop-point.best (sym c.of.ensures) c.loop-point.invariant.best in
    let last : c.in-Some.point.number + 1 ≡ 2 ^ 64 = omega arith in
    rw (← last, c.sooner-best.ensures) more

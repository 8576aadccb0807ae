use Rattle.std.proofs.Common.{◌≡◌, length, MatchOption, None, subst, arith}
use Rattle.registers.specs.Arrivals.{Stands}
use Rattle.registers.specs.Points.{point_in}
use Rattle.registers.proofs.Arrivals.{Walked, walk_done}
use Rattle.registers.proofs.roll.Roll.locate.Goals as goal

pub returns : goal.returns
returns c =
    let xs = c.records-records.result.now in
    let k = c.args.number in
    let at = c.loop-i.at in
    let end : c.loop-i.i ≡ length xs = omega arith in
    subst (λ ys. MatchOption at (point_in ys k ≡ None) (Stands ys k)) c.records-records.ensures.all (walk_done xs c.records-records.ensures.apart k at (subst (λ i. Walked xs k i at) end c.loop-i.invariant))

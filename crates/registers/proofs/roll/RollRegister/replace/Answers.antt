use Rattle.std.proofs.Common.{◌≡◌, MatchOption, None, slice_set, subst}
use Rattle.registers.specs.Arrivals.{Stands}
use Rattle.registers.specs.Points.{point_in}
use Rattle.registers.proofs.Arrivals.{apart_replace, arrived, put}
use Rattle.registers.proofs.roll.RollRegister.replace.Goals as goal

stands : (c : goal.In_ok-at) → Stands c.args.self.now.items c.args.point.number c.in_ok-at.at
stands c = subst (λ o. MatchOption o (point_in c.args.self.now.items c.args.point.number ≡ None) (Stands c.args.self.now.items c.args.point.number)) c.in_ok-at.ensures.ok_part c.locate.ensures

pub invariant_of-self : goal.invariant_of-self
invariant_of-self c =
    let s = c.self.inside in
    apart_replace s.items.now s.count c.self.invariant.0 c.self.invariant.1 c.args.self.now c.self.view_is c.args.point c.in_ok-at.at (stands c)

pub returns-clause-replaced : goal.returns-clause-replaced
returns-clause-replaced c =
    let s = c.self.inside in
    put s.items.now s.count c.self.invariant.0 c.self.invariant.1 c.args.self.now c.self.view_is c.args.point c.in_ok-at.at (stands c)

pub returns-clause-sound : goal.returns-clause-sound
returns-clause-sound c =
    let s = c.self.inside in
    arrived (slice_set s.items.now c.in_ok-at.at c.args.point) s.count (apart_replace s.items.now s.count c.self.invariant.0 c.self.invariant.1 c.args.self.now c.self.view_is c.args.point c.in_ok-at.at (stands c))

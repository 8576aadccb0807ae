use Rattle.std.proofs.Common.{◌+◌, slice_set}
use Rattle.registers.proofs.Arrivals.{there_already, apart_add, arrived, joined}
use Rattle.registers.proofs.roll.RollRegister.add.Goals as goal

pub invariant_of-self : goal.invariant_of-self
invariant_of-self c =
    let s = c.self.inside in
    apart_add s.items.now s.count c.self.invariant.0 c.self.invariant.1 c.args.self.now c.self.view_is c.args.point c.if-self.false c.in-None-2.ensures

pub returns-in-Some-clause-added : goal.returns-in-Some-clause-added
returns-in-Some-clause-added c = there_already c.args.self.now c.args.point _ c.in-Some.ensures

pub returns-in-None-2-clause-added : goal.returns-in-None-2-clause-added
returns-in-None-2-clause-added c =
    let s = c.self.inside in
    joined s.items.now s.count c.self.invariant.0 c.self.invariant.1 c.args.self.now c.self.view_is c.args.point c.if-self.false c.in-None-2.ensures

pub returns-in-None-2-clause-sound : goal.returns-in-None-2-clause-sound
returns-in-None-2-clause-sound c =
    let s = c.self.inside in
    arrived (slice_set s.items.now s.count c.args.point) (s.count + 1) (apart_add s.items.now s.count c.self.invariant.0 c.self.invariant.1 c.args.self.now c.self.view_is c.args.point c.if-self.false c.in-None-2.ensures)

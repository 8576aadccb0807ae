use Rattle.engine.proofs.engines.Engine.apply.Goals as goal

pub returns-in-Create : goal.returns-in-Create
returns-in-Create g c = rw c.in-Create.is (c.create.ensures (g.D.Directory.parties c.args.directory.now) (g.O.Outbox.queue c.args.outbox.now))

pub returns-in-Advance : goal.returns-in-Advance
returns-in-Advance g c = rw c.in-Advance.is (c.advance.ensures (g.D.Directory.parties c.args.directory.now))

pub returns-in-Take : goal.returns-in-Take
returns-in-Take g c = rw c.in-Take.is (c.take.ensures (g.D.Directory.parties c.args.directory.now))

use Rattle.directory.proofs.Added.{link_added}
use Rattle.directory.proofs.book.PartyBook.add_link.Goals as goal

pub returns-clause-after : goal.returns-clause-after
returns-clause-after c = link_added _ _ _ _ c.in_ok-link.ensures c.in_ok-add.ensures.by_key c.in_ok-add.ensures.count

use Rattle.directory.proofs.Added.{party_added}
use Rattle.directory.proofs.book.PartyBook.add_party.Goals as goal

pub returns-clause-after : goal.returns-clause-after
returns-clause-after c = party_added _ _ _ _ c.in_ok-entry.ensures c.in_ok-add.ensures.by_key c.in_ok-add.ensures.count

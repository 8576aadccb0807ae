use Rattle.std.proofs.Common.{rules}
use Rattle.std.proofs.lemmas.List.Sorted.{answers_always}
use Rattle.tables.proofs.Ordered.{seek_first}
use Rattle.tables.proofs.Places.{searched}
use Rattle.tables.proofs.OrderedTable.locate.Goals as goal

-- the closure gives a record's key, and the slice is the table's records
pub returns-clause-place : goal.returns-clause-place
returns-clause-place g c =
    let by_key = c.binary_search_by_key.ensures.position g.T.Keyed.own (answers_always _ _ _ (λ f a r h called. search rules)) in
    rw (← c.records.ensures.all) (searched g.T.Keyed.own g.T.Key.Ord.cmp g.met.T.Key.Ord.total g.met.T.Keyed.exact c.records.result.now (rw c.records.ensures.all c.records.ensures.sound.1) c.args.key c.binary_search_by_key.result c.binary_search_by_key.ensures.bound by_key)

pub returns-clause-lowest : goal.returns-clause-lowest
returns-clause-lowest g c = seek_first g.T.Keyed.own g.T.Key.Ord.cmp g.met.T.Key.Ord.total _ c.records.ensures.sound.1 c.args.key

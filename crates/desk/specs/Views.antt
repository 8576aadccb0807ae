-- What a desk holds, as plain values.
use Rattle.market.specs.Stores.{Registered, Queue}
use Rattle.engine.specs.State.{view_of}
use Rattle.desk.specs.declared.desks.Desk.{Desk}
use Rattle.desk.specs.Holdings.{Holding}

abbrev pub holding_of : {R O C : Type 0} → (R → Registered) → (O → Queue) → Desk R O C → Holding
holding_of known queue d = record {
  state = view_of known queue d.engine d.outbox;
  listing = record {
    parties = d.directory.now.parties.items;
    links = d.directory.now.links.items;
    party_places = d.directory.now.parties.size;
    link_places = d.directory.now.links.size;
  };
  lines = d.lines;
}

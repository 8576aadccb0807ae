-- What is listed after an entry or a link joined, by what each key finds then.
use Rattle.std.proofs.Common.{◌≡◌, ℕ, ◌+◌, true, List, length, arith}
use Rattle.market.specs.declared.received.NewLink.{NewLink}
use Rattle.market.specs.declared.received.NewParty.{NewParty}
use Rattle.tables.proofs.Orders.{pairs_alike}
use Rattle.tables.specs.Keys.{find, find_put}
use Rattle.tables.specs.Orders.{pair_cmp}
use Rattle.directory.specs.Additions.{PartyAdded, LinkAdded}
use Rattle.directory.specs.Entries.{party_key, link_key}
use Rattle.directory.specs.Limits.{PartyRead, LinkRead}
use Rattle.directory.specs.declared.entries.PartyEntry.{PartyEntry}
use Rattle.directory.specs.declared.entries.LinkEntry.{LinkEntry}

pub party_added : (new : NewParty) (e : PartyEntry) (xs ys : List PartyEntry) → PartyRead new e → ((k : ℕ × ℕ) → find party_key pair_cmp k ys ≡ find_put party_key pair_cmp true e xs k) → length ys ≡ length xs + 1 → PartyAdded new xs true ys
party_added new e xs ys read found more =
    record {
      listed = λ i j. let here = found (i, j) in let alike = pairs_alike (party_key e) (i, j) in grind arith;
      qualify = λ i j. let here = found (i, j) in let alike = pairs_alike (party_key e) (i, j) in grind arith;
      sanction = λ i j. let here = found (i, j) in let alike = pairs_alike (party_key e) (i, j) in grind arith;
      counted = more;
    }

pub link_added : (new : NewLink) (l : LinkEntry) (xs ys : List LinkEntry) → LinkRead new l → ((k : ℕ × ℕ) → find link_key pair_cmp k ys ≡ find_put link_key pair_cmp true l xs k) → length ys ≡ length xs + 1 → LinkAdded new xs true ys
link_added new l xs ys read found more =
    record {
      links = λ i j. let here = found (i, j) in let alike = pairs_alike (link_key l) (i, j) in grind arith;
      counted = more;
    }

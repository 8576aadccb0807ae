-- The numbers that stand for a party, a role that a party can be listed in, and a yes or no.
use Rattle.std.specs.Prelude.{◌≡◌, ℕ, Bool, true, false, ◌&&◌, ◌||◌, ◌==◌}
use Rattle.market.specs.Limits.{is_party, is_yes_no}
use Rattle.market.specs.Numbers.{role_number}
use Rattle.market.specs.declared.received.NewParty.{NewParty}
use Rattle.market.specs.declared.received.NewLink.{NewLink}
use Rattle.market.specs.declared.refusals.Refusal.{Refusal}
use Rattle.market.specs.declared.refusals.Refusal.TheVariants.{OutsideLimits}
use Rattle.directory.specs.declared.entries.PartyEntry.{PartyEntry}
use Rattle.directory.specs.declared.entries.LinkEntry.{LinkEntry}

-- gainer, gaining shipper, metering equipment manager, data collector, data aggregator, meter asset provider
abbrev pub is_listable : ℕ → Bool
is_listable r = r == 1 || (r == 3 || (r == 5 || (r == 6 || (r == 7 || r == 8))))

abbrev pub party_within : NewParty → Bool
party_within new = is_party new.number && (is_listable new.role && (is_yes_no new.qualified && is_yes_no new.sanctioned))

abbrev pub link_within : NewLink → Bool
link_within new = is_party new.supplier && is_party new.shipper

-- e is the entry that the four numbers stand for
pub record PartyRead (new : NewParty) (e : PartyEntry) : Type 0 where
  pub within : party_within new ≡ true
  pub party : e.number ≡ new.number
  pub in_role : role_number e.role ≡ new.role
  pub is_qualified : e.qualified ≡ (new.qualified == 1)
  pub is_sanctioned : e.sanctioned ≡ (new.sanctioned == 1)

-- l is the link that the two numbers stand for
pub record LinkRead (new : NewLink) (l : LinkEntry) : Type 0 where
  pub within : link_within new ≡ true
  pub of_supplier : l.supplier ≡ new.supplier
  pub of_shipper : l.shipper ≡ new.shipper

-- what is not within its limits is refused as such
abbrev pub Outside : Bool → Refusal → Type 0
Outside within e = (within ≡ false) × (e ≡ OutsideLimits)

-- What an addition answers, and what is listed after it.
use Rattle.std.specs.Prelude.{◌≡◌, ℕ, ◌+◌, Bool, true, cond, ◌&&◌, List, length, Ok, Err, Result, ◌==◌, nat_lt}
use Rattle.market.specs.declared.received.NewParty.{NewParty}
use Rattle.market.specs.declared.received.NewLink.{NewLink}
use Rattle.market.specs.declared.refusals.Refusal.{Refusal}
use Rattle.market.specs.declared.refusals.Refusal.TheVariants as row
use Rattle.directory.specs.Entries.{listed_in, qualified_in, sanctioned_in, linked_in}
use Rattle.directory.specs.Limits.{party_within, link_within}
use Rattle.directory.specs.declared.entries.PartyEntry.{PartyEntry}
use Rattle.directory.specs.declared.entries.LinkEntry.{LinkEntry}

-- the first of the three refusals that applies: outside the limits, there already, no place left
abbrev pub answer : Bool → Bool → Bool → Result (Unit {0}) Refusal
answer within there room = cond within (cond there (Err row.AlreadyThere) (cond room (Ok tt) (Err row.NoPlace))) (Err row.OutsideLimits)

-- the answer to the addition of a party to xs, of which n can be held
abbrev pub party_answer : List PartyEntry → ℕ → NewParty → Result (Unit {0}) Refusal
party_answer xs n new = answer (party_within new) (listed_in xs new.number new.role) (nat_lt (length xs) n)

abbrev pub link_answer : List LinkEntry → ℕ → NewLink → Result (Unit {0}) Refusal
link_answer xs n new = answer (link_within new) (linked_in xs new.supplier new.shipper) (nat_lt (length xs) n)

-- where the addition of the party in its role was accepted, that entry is new; every other is as before
pub record PartyAdded (new : NewParty) (before : List PartyEntry) (ok : Bool) (after : List PartyEntry) : Type 0 where
  pub listed : (i j : ℕ) → listed_in after i j ≡ cond (ok && (new.number == i && new.role == j)) true (listed_in before i j)
  pub qualify : (i j : ℕ) → qualified_in after i j ≡ cond (ok && (new.number == i && new.role == j)) (new.qualified == 1) (qualified_in before i j)
  pub sanction : (i j : ℕ) → sanctioned_in after i j ≡ cond (ok && (new.number == i && new.role == j)) (new.sanctioned == 1) (sanctioned_in before i j)
  pub counted : length after ≡ cond ok (length before + 1) (length before)

-- where the addition of the link was accepted, that pair is new; every other is as before
pub record LinkAdded (new : NewLink) (before : List LinkEntry) (ok : Bool) (after : List LinkEntry) : Type 0 where
  pub links : (i j : ℕ) → linked_in after i j ≡ cond (ok && (new.supplier == i && new.shipper == j)) true (linked_in before i j)
  pub counted : length after ≡ cond ok (length before + 1) (length before)

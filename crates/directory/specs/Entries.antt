-- What the listed parties and links say. A role goes by its number.
use Rattle.std.specs.Prelude.{ℕ, Bool, false, List, is_some, Some, None, Option}
use Rattle.market.specs.Numbers.{role_number}
use Rattle.market.specs.Stores.{Parties}
use Rattle.tables.specs.Keys.{find}
use Rattle.tables.specs.Orders.{pair_cmp}
use Rattle.directory.specs.declared.entries.PartyEntry.{PartyEntry}
use Rattle.directory.specs.declared.entries.LinkEntry.{LinkEntry}

abbrev pub party_key : PartyEntry → ℕ × ℕ
party_key e = (e.number, role_number e.role)

abbrev pub link_key : LinkEntry → ℕ × ℕ
link_key l = (l.supplier, l.shipper)

-- the entry of the party p in the role r
abbrev pub entry_of : List PartyEntry → ℕ → ℕ → Option PartyEntry
entry_of xs p r = find party_key pair_cmp (p, r) xs

-- what an entry says, where there is one; without an entry, no
abbrev pub says : (PartyEntry → Bool) → Option PartyEntry → Bool
says f None = false
says f (Some e) = f e

abbrev pub listed_in : List PartyEntry → ℕ → ℕ → Bool
listed_in xs p r = is_some (entry_of xs p r)

abbrev pub qualified_in : List PartyEntry → ℕ → ℕ → Bool
qualified_in xs p r = says (λ e. e.qualified) (entry_of xs p r)

abbrev pub sanctioned_in : List PartyEntry → ℕ → ℕ → Bool
sanctioned_in xs p r = says (λ e. e.sanctioned) (entry_of xs p r)

-- the shipper b ships for the supplier a
abbrev pub linked_in : List LinkEntry → ℕ → ℕ → Bool
linked_in xs a b = is_some (find link_key pair_cmp (a, b) xs)

-- what the listed parties and links say, as a directory's meaning
abbrev pub parties_of : List PartyEntry → List LinkEntry → Parties
parties_of xs ls = record {
  qualified = λ p x. qualified_in xs p (role_number x);
  sanctioned = λ p x. sanctioned_in xs p (role_number x);
  linked = λ a b. linked_in ls a b;
}

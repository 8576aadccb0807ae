-- What a line does to everything that a feed holds.
use Rattle.std.specs.Prelude.{◌≡◌, ℕ, ◌+◌, ◌-◌, ◌^◌, min, false, List, is_ok, Ok, Err, Result}
use Rattle.market.specs.declared.refusals.Refusal.{Refusal}
use Rattle.market.specs.declared.received.NewLink.{NewLink}
use Rattle.market.specs.declared.received.NewParty.{NewParty}
use Rattle.engine.specs.declared.calls.Answer.{Answer}
use Rattle.engine.specs.declared.calls.Call.{Call}
use Rattle.engine.specs.Outcome.{Outcome, Unchanged}
use Rattle.engine.specs.State.{State}
use Rattle.directory.specs.declared.entries.PartyEntry.{PartyEntry}
use Rattle.directory.specs.declared.entries.LinkEntry.{LinkEntry}
use Rattle.directory.specs.Additions.{party_answer, link_answer, PartyAdded, LinkAdded}
use Rattle.directory.specs.Entries.{parties_of}
use Rattle.lines.specs.declared.commands.Command.{Command}
use Rattle.lines.specs.declared.commands.Command.TheVariants as command
use Rattle.words.specs.declared.faults.FeedFault.{FeedFault}
use Rattle.lines.specs.Decoding.{accepted}
use Rattle.desk.specs.declared.replies.Reply.{Reply}
use Rattle.desk.specs.declared.replies.Reply.TheVariants.{Fault}
use Rattle.desk.specs.Replies.{reply_to, added_reply}

-- the listed parties and links, and how many of each there is room for
pub record Listing : Type 0 where
  pub parties : List PartyEntry
  pub links : List LinkEntry
  pub party_places : ℕ
  pub link_places : ℕ

-- register, outbox and clock; the directory; and how many lines came
pub record Holding : Type 0 where
  pub state : State
  pub listing : Listing
  pub lines : ℕ

-- the number of the line that comes next; it stops at the greatest that fits 64 bits
abbrev pub next_line : ℕ → ℕ
next_line n = min (n + 1) (2 ^ 64 - 1)

pub record PartyListed (new : NewParty) (h k : Holding) (a : Reply) : Type 0 where
  pub reply : a ≡ added_reply (party_answer h.listing.parties h.listing.party_places new)
  pub parties : PartyAdded new h.listing.parties (is_ok (party_answer h.listing.parties h.listing.party_places new)) k.listing.parties
  pub refused : is_ok (party_answer h.listing.parties h.listing.party_places new) ≡ false → k.listing.parties ≡ h.listing.parties
  pub links : k.listing.links ≡ h.listing.links
  pub party_places : k.listing.party_places ≡ h.listing.party_places
  pub link_places : k.listing.link_places ≡ h.listing.link_places
  pub state : Unchanged h.state k.state

pub record LinkListed (new : NewLink) (h k : Holding) (a : Reply) : Type 0 where
  pub reply : a ≡ added_reply (link_answer h.listing.links h.listing.link_places new)
  pub links : LinkAdded new h.listing.links (is_ok (link_answer h.listing.links h.listing.link_places new)) k.listing.links
  pub refused : is_ok (link_answer h.listing.links h.listing.link_places new) ≡ false → k.listing.links ≡ h.listing.links
  pub parties : k.listing.parties ≡ h.listing.parties
  pub party_places : k.listing.party_places ≡ h.listing.party_places
  pub link_places : k.listing.link_places ≡ h.listing.link_places
  pub state : Unchanged h.state k.state

-- the engine's answer is the reply, and the directory stays
pub record Called (c : Call) (h k : Holding) (a : Reply) : Type 0 where
  pub answer : Result Answer Refusal
  pub outcome : Outcome c (parties_of h.listing.parties h.listing.links) h.state answer k.state
  pub reply : a ≡ reply_to answer
  pub listing : k.listing ≡ h.listing

-- a faulty line changes nothing
pub record Faulty (f : FeedFault) (h k : Holding) (a : Reply) : Type 0 where
  pub reply : a ≡ Fault (record { line = next_line h.lines; fault = f })
  pub state : Unchanged h.state k.state
  pub listing : k.listing ≡ h.listing

abbrev pub ByCommand : Result Command FeedFault → Holding → Reply → Holding → Type 0
ByCommand (Err f) h a k = Faulty f h k a
ByCommand (Ok (command.Party new)) h a k = PartyListed new h k a
ByCommand (Ok (command.Link new)) h a k = LinkListed new h k a
ByCommand (Ok (command.Call c)) h a k = Called c h k a

-- the bytes of a line, all that is held before, the reply, and all that is held after
pub record Answered (bytes : List ℕ) (h : Holding) (a : Reply) (k : Holding) : Type 0 where
  pub done : ByCommand (accepted bytes) h a k
  pub lines : k.lines ≡ next_line h.lines

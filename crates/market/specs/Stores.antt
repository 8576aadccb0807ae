-- What each store means: a register, an outbox and a directory as plain values.
use Rattle.std.specs.Prelude.{◌≡◌, ℕ, Bool, true, false, List, is_some, is_ok, Some, None, Ok, Err, Option, Result}
use Rattle.market.specs.declared.notices.Notice.{Notice}
use Rattle.market.specs.declared.notices.Role.{Role}
use Rattle.market.specs.declared.points.Point.{Point}
use Rattle.market.specs.declared.refusals.Absent.{Absent}
use Rattle.market.specs.declared.refusals.AddError.{AddError}
use Rattle.market.specs.declared.refusals.AddError.TheVariants.{AlreadyThere, NoPlace}
use Rattle.market.specs.Looks.{put_at}

-- a register: the point of each number, or nothing, and whether a number is absent and has a place
pub record Registered : Type 0 where
  pub look : ℕ → Option Point
  pub place : ℕ → Bool

-- an outbox: what waits, the oldest first, how many places are free, and its size
pub record Queue : Type 0 where
  pub waiting : List Notice
  pub room : ℕ
  pub size : ℕ

-- what a directory says of parties in roles, and of shippers and suppliers
pub record Parties : Type 0 where
  pub qualified : ℕ → Role → Bool
  pub sanctioned : ℕ → Role → Bool
  pub linked : ℕ → ℕ → Bool

-- the answer to a new record, from the record that has its key already and whether there is a place
abbrev pub addition : {X : Type 0} → Option X → Bool → Result (Unit {0}) AddError
addition (Some x) place = Err AlreadyThere
addition None true = Ok tt
addition None false = Err NoPlace

-- a new point joins where its place exists, else all stays; after it a place may be gone, but none appears
pub record Added (p : Point) (r : Result (Unit {0}) AddError) (s t : Registered) : Type 0 where
  pub value : r ≡ addition (s.look p.number) (s.place p.number)
  pub accepted : is_ok r ≡ s.place p.number
  pub after : (k : ℕ) → t.look k ≡ put_at (is_ok r) p s.look k
  pub shrinks : (k : ℕ) → t.place k ≡ true → s.place k ≡ true
  pub refused : is_ok r ≡ false → (k : ℕ) → t.place k ≡ s.place k

-- the point stands in the place of the one of its number, or all stays where there is none
pub record Replaced (p : Point) (r : Result (Unit {0}) Absent) (s t : Registered) : Type 0 where
  pub value : is_ok r ≡ is_some (s.look p.number)
  pub after : (k : ℕ) → t.look k ≡ put_at (is_ok r) p s.look k
  pub same : (k : ℕ) → t.place k ≡ s.place k

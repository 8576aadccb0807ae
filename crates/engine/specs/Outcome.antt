-- The whole outcome of a call: refused by the first row that applies, and nothing changed;
-- or accepted, and exactly this.
use Rattle.std.specs.Prelude.{◌≡◌, ℕ, ◌-◌, ◌^◌, ◌≤◌, Bool, true, false, List, [], ◌++◌, length, Some, None, Ok, Err, Option, Result}
use Rattle.market.specs.declared.points.Point.{Point}
use Rattle.market.specs.declared.refusals.Refusal.{Refusal}
use Rattle.market.specs.declared.refusals.Refusal.TheVariants.{OutsideLimits, NoSuchPoint}
use Rattle.market.specs.Looks.{put_at}
use Rattle.market.specs.Waits.{oldest, others}
use Rattle.rules.specs.declared.steps.Step.{Step}
use Rattle.rules.specs.Limits.{new_point, asked_of, moment_of}
use Rattle.market.specs.Stores.{Parties}
use Rattle.rules.specs.Rows.{Row, first_of, initial_rows}
use Rattle.engine.specs.declared.calls.Answer.{Answer}
use Rattle.engine.specs.declared.calls.Answer.TheVariants.{Taken}
use Rattle.engine.specs.declared.calls.Call.{Call}
use Rattle.engine.specs.declared.calls.Call.TheVariants.{Create, Initial, Advance, Take}
use Rattle.agenda.specs.Earliest.{Earliest}
use Rattle.engine.specs.Effects.{Effect, creating, requesting, advancing}
use Rattle.engine.specs.State.{State}
use Rattle.engine.specs.Table.{backwards, overdue, newcomer, crowded}

pub record Unchanged (s t : State) : Type 0 where
  pub points : (k : ℕ) → t.look k ≡ s.look k
  pub places : (k : ℕ) → t.place k ≡ s.place k
  pub clock : t.clock ≡ s.clock
  pub queue : t.queue ≡ s.queue

-- the look-up with the stored point at its number
abbrev pub stored_in : Option Point → (ℕ → Option Point) → ℕ → Option Point
stored_in None look k = look k
stored_in (Some p) look k = put_at true p look k

-- where a point joined, places may be gone, and none appears; else they stay
abbrev pub PlacesAfter : Bool → State → State → Type 0
PlacesAfter true s t = (k : ℕ) → t.place k ≡ true → s.place k ≡ true
PlacesAfter false s t = (k : ℕ) → t.place k ≡ s.place k

-- the effect is done, whole: point, notices in their order at the end of the outbox, clock
pub record Carried (e : Effect) (s t : State) : Type 0 where
  pub points : (k : ℕ) → t.look k ≡ stored_in e.stored s.look k
  pub places : PlacesAfter e.joins s t
  pub clock : t.clock ≡ e.clock
  pub waiting : t.queue.waiting ≡ s.queue.waiting ++ e.owed
  pub room : t.queue.room ≡ s.queue.room - length e.owed
  pub size : t.queue.size ≡ s.queue.size

abbrev pub Refused : Refusal → State → Result Answer Refusal → State → Type 0
Refused q s r t = (r ≡ Err q) × Unchanged s t

abbrev pub Accepted : Effect → State → Result Answer Refusal → State → Type 0
Accepted e s r t = (r ≡ Ok e.answer) × Carried e s t

-- something has to be there, else the row refuses; with it the next rows decide
abbrev pub Needs : {X : Type 0} → Refusal → Option X → State → Result Answer Refusal → State → (X → Type 0) → Type 0
Needs q None s r t Next = Refused q s r t
Needs q (Some x) s r t Next = Next x

-- the first row that applies refuses; where none does, the next rows decide
abbrev pub Unless : Option Refusal → State → Result Answer Refusal → State → Type 0 → Type 0
Unless (Some q) s r t Next = Refused q s r t
Unless None s r t Next = Next

abbrev pub Passes : List Row → State → Result Answer Refusal → State → Type 0 → Type 0
Passes rows s r t Next = Unless (first_of rows) s r t Next

-- sent and stored where there is room for every notice, else neither
abbrev pub Settled : Effect → State → Result Answer Refusal → State → Type 0
Settled e s r t = Passes (crowded s e) s r t (Accepted e s r t)

-- the oldest notice is handed out, or nothing when none waits; free places never fall by it, and
-- where none is left waiting the whole size is free
pub record Handed (s : State) (a : Answer) (t : State) : Type 0 where
  pub answer : a ≡ Taken (oldest s.queue.waiting)
  pub points : (k : ℕ) → t.look k ≡ s.look k
  pub places : (k : ℕ) → t.place k ≡ s.place k
  pub clock : t.clock ≡ s.clock
  pub waiting : t.queue.waiting ≡ others s.queue.waiting
  pub room : s.queue.room ≤ t.queue.room
  pub emptied : t.queue.waiting ≡ [] → t.queue.room ≡ t.queue.size
  pub size : t.queue.size ≡ s.queue.size

abbrev pub Took : State → Result Answer Refusal → State → Type 0
Took s (Err r) t = ⊥
Took s (Ok a) t = Handed s a t

-- some step is the earliest up to the moment among all points, or none is; with it the next rows decide
abbrev pub Foreseen : State → ℕ → (Option Step → Type 0) → Type 0
Foreseen s upto Next = (e : Option Step) × Earliest s.look upto (2 ^ 64) e × Next e

abbrev pub Outcome : Call → Parties → State → Result Answer Refusal → State → Type 0
Outcome (Create n) w s r t =
    Needs OutsideLimits (new_point n.number n.fuel n.domestic n.status) s r t (λ p.
    Foreseen s s.clock (λ due.
    Passes (overdue due) s r t (
    Passes (newcomer s p) s r t (
    Accepted (creating p s.clock) s r t))))
Outcome (Initial n) w s r t =
    Needs OutsideLimits (asked_of n.point n.gainer n.shipper n.start) s r t (λ a.
    Foreseen s s.clock (λ due.
    Passes (overdue due) s r t (
    Needs NoSuchPoint (s.look a.point) s r t (λ p. (p.number ≡ a.point) × (
    Passes (initial_rows w s.clock p a) s r t (
    Settled (requesting a p s.clock) s r t))))))
Outcome (Advance n) w s r t =
    Needs OutsideLimits (moment_of n) s r t (λ m.
    Passes (backwards s m) s r t (
    Foreseen s m (λ next.
    Settled (advancing m s.clock next) s r t)))
Outcome Take w s r t = Took s r t

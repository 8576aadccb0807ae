-- The rows of the table of refusals that look at one point.
use Rattle.std.specs.Prelude.{ℕ, ◌+◌, ◌/◌, ◌%◌, Bool, true, false, cond, not, ◌&&◌, ◌||◌, List, [], ◌∷◌, is_some, Some, None, Ok, Err, Option, Result, nat_le, nat_lt}
use Rattle.market.specs.declared.notices.Role.TheVariants.{Gainer, GainingShipper}
use Rattle.market.specs.declared.points.Fuel.{Fuel}
use Rattle.market.specs.declared.points.Point.{Point}
use Rattle.market.specs.declared.points.Status.{Status}
use Rattle.market.specs.declared.points.Status.TheVariants.{Created, Operational, Dormant, Terminated}
use Rattle.market.specs.declared.refusals.Refusal.{Refusal}
use Rattle.market.specs.declared.refusals.Refusal.TheVariants.{DayNotAllowed, NotQualified, Sanctioned, WrongForFuel, RequestPending, WrongRegistration, WrongStatus}
use Rattle.market.specs.Stores.{Parties}
use Rattle.rules.specs.declared.limits.Asked.{Asked}
use Rattle.rules.specs.Notices.{at_gas}

-- a row: the refusal, and whether it applies
pub record Row : Type 0 where
  pub refusal : Refusal
  pub applies : Bool

abbrev pub row : Refusal → Bool → Row
row r b = record { refusal = r; applies = b }

-- the first row that applies
abbrev pub first_of : List Row → Option Refusal
first_of [] = None
first_of (r ∷ rs) = cond r.applies (Some r.refusal) (first_of rs)

-- refused by a row, or passed
abbrev pub passing : Option Refusal → Result (Unit {0}) Refusal
passing None = Ok tt
passing (Some r) = Err r

abbrev pub when_some : {X : Type 0} → Option X → (X → Bool) → Bool
when_some None t = false
when_some (Some x) t = t x

-- more than 28 days after the clock's day
abbrev pub too_far : ℕ → ℕ → Bool
too_far clock day = nat_lt (clock / 1440 + 28) day

-- before the next day, or from 17:00 on before the second
abbrev pub too_soon : ℕ → ℕ → Bool
too_soon clock day = nat_lt day (clock / 1440 + cond (nat_le 1020 (clock % 1440)) 2 1)

-- the gainer is a qualified supplier, and at gas the shipper a qualified shipper
abbrev pub not_qualified : Parties → Fuel → ℕ → Option ℕ → Bool
not_qualified w f g s = not (w.qualified g Gainer) || (at_gas f && not (when_some s (λ x. w.qualified x GainingShipper)))

abbrev pub is_sanctioned : Parties → Fuel → ℕ → Option ℕ → Bool
is_sanctioned w f g s = w.sanctioned g Gainer || (at_gas f && when_some s (λ x. w.sanctioned x GainingShipper))

-- at gas the shipper ships for the gainer; at electricity there is none
abbrev pub wrong_shipper : Parties → Fuel → ℕ → Option ℕ → Bool
wrong_shipper w f g s = cond (at_gas f) (not (when_some s (w.linked g))) (is_some s)

-- no first registration of a terminated point, nor of a gas point that is only created
abbrev pub not_for_initial : Status → Fuel → Bool
not_for_initial Created f = at_gas f
not_for_initial Operational f = false
not_for_initial Dormant f = false
not_for_initial Terminated f = true

-- the rows from 7 on for an initial request, but for the last
abbrev pub initial_rows : Parties → ℕ → Point → Asked → List Row
initial_rows w clock p a =
    row DayNotAllowed (too_far clock a.start || too_soon clock a.start)
    ∷ row NotQualified (not_qualified w p.fuel a.gainer a.shipper)
    ∷ row Sanctioned (is_sanctioned w p.fuel a.gainer a.shipper)
    ∷ row WrongForFuel (wrong_shipper w p.fuel a.gainer a.shipper)
    ∷ row RequestPending (is_some p.request)
    ∷ row WrongRegistration (is_some p.supplier)
    ∷ row WrongStatus (not_for_initial p.status p.fuel)
    ∷ []

-- The limits of the numbers in a call, and the values that numbers within them stand for.
use Rattle.std.specs.Prelude.{ℕ, Bool, cond, ◌&&◌, Some, None, Ok, Err, Option, Result, ◌==◌, nat_le}
use Rattle.market.specs.declared.points.Fuel.{Fuel}
use Rattle.market.specs.declared.points.Point.{Point}
use Rattle.market.specs.declared.points.Status.{Status}
use Rattle.market.specs.declared.refusals.Refusal.{Refusal}
use Rattle.market.specs.declared.refusals.Refusal.TheVariants.{OutsideLimits}
use Rattle.market.specs.Limits.{is_point, is_party, party_or_none}
use Rattle.market.specs.Numbers.{fuel_of, status_of}
use Rattle.rules.specs.declared.limits.Asked.{Asked}

-- a start or leaving day
abbrev pub is_day : ℕ → Bool
is_day n = nat_le 1 n && nat_le n 99999

abbrev pub is_moment : ℕ → Bool
is_moment n = nat_le n 143999999

-- a point as it is created: the rest is none
abbrev pub created : ℕ → Fuel → Bool → Status → Point
created n f d s = record {
  number = n;
  fuel = f;
  domestic = d;
  status = s;
  supplier = None;
  shipper = None;
  since = None;
  mem = None;
  dc = None;
  da = None;
  map = None;
  leaving = None;
  request = None;
}

abbrev pub created_by : ℕ → Bool → Option Fuel → Option Status → Option Point
created_by n d None s = None
created_by n d (Some f) None = None
created_by n d (Some f) (Some s) = Some (created n f d s)

-- the point that the numbers of a creation stand for; a status from 1 to 3
abbrev pub new_point : ℕ → ℕ → ℕ → ℕ → Option Point
new_point n f d s = cond (is_point n && nat_le d 1 && nat_le s 3) (created_by n (d == 1) (fuel_of f) (status_of s)) None

-- a number from the least to the most
abbrev pub between : ℕ → ℕ → ℕ → Option ℕ
between least most n = cond (nat_le least n && nat_le n most) (Some n) None

-- what the numbers of a request stand for
abbrev pub asked_of : ℕ → ℕ → ℕ → ℕ → Option Asked
asked_of p g s d = cond (is_point p && is_party g && nat_le s 65535 && is_day d) (Some (record { point = p; gainer = g; shipper = party_or_none s; start = d })) None

abbrev pub moment_of : ℕ → Option ℕ
moment_of n = cond (is_moment n) (Some n) None

-- refused by the first row where the numbers stand for nothing
abbrev pub or_outside : {X : Type 0} → Option X → Result X Refusal
or_outside None = Err OutsideLimits
or_outside (Some x) = Ok x

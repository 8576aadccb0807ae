-- A point's next step, and the point after it.
use Rattle.std.specs.Prelude.{ℕ, ◌+◌, ◌-◌, ◌*◌, List, Some, None, Option, codes}
use Rattle.std.specs.Option.{option_map}
use Rattle.market.specs.declared.points.Point.{Point}
use Rattle.market.specs.declared.points.Request.{Request}
use Rattle.market.specs.declared.points.RequestState.{RequestState}
use Rattle.market.specs.declared.points.RequestState.TheVariants as state
use Rattle.rules.specs.declared.steps.Turn.{Turn}
use Rattle.rules.specs.declared.steps.Turn.TheVariants.{Confirmed, Secured, Completed, Left}
use Rattle.rules.specs.declared.steps.Step.{Step}

-- 00:00 of a day
abbrev pub dawn : ℕ → ℕ
dawn day = day * 1440

-- 17:00 of the day before
abbrev pub eve : ℕ → ℕ
eve day = (day - 1) * 1440 + 1020

-- a Validated request is confirmed at its window's end, a Confirmed one secured at 17:00 of the day
-- before its start day, a Secured one completed at 00:00 of its start day
abbrev pub state_step : RequestState → Request → Option (Turn × ℕ)
state_step state.Validated r = option_map (λ w. (Confirmed, w)) r.window
state_step state.Confirmed r = Some (Secured, eve r.start)
state_step state.Secured r = Some (Completed, dawn r.start)

abbrev pub request_step : Option Request → Option (Turn × ℕ)
request_step None = None
request_step (Some r) = state_step r.state r

-- where a leaving day stands, the step is leaving at its 00:00
abbrev pub next_step : Option ℕ → Option Request → Option (Turn × ℕ)
next_step (Some day) r = Some (Left, dawn day)
next_step None r = request_step r

abbrev pub step_of : Point → Option Step
step_of p = option_map (λ t. record { point = p; turn = t.0; moment = t.1 }) (next_step p.leaving p.request)

-- the request in another state
abbrev pub in_state : RequestState → Request → Request
in_state s r = record { state = s; kind = r.kind; gainer = r.gainer; shipper = r.shipper; start = r.start; window = r.window }

abbrev pub with_request : Option Request → Point → Point
with_request q p = record {
  number = p.number;
  fuel = p.fuel;
  domestic = p.domestic;
  status = p.status;
  supplier = p.supplier;
  shipper = p.shipper;
  since = p.since;
  mem = p.mem;
  dc = p.dc;
  da = p.da;
  map = p.map;
  leaving = p.leaving;
  request = q;
}

-- registered: supplier, shipper and since day; leaving day and request as given; agents stay
abbrev pub registered : Option ℕ → Option ℕ → Option ℕ → Option ℕ → Option Request → Point → Point
registered sup ship since leave q p = record {
  number = p.number;
  fuel = p.fuel;
  domestic = p.domestic;
  status = p.status;
  supplier = sup;
  shipper = ship;
  since = since;
  mem = p.mem;
  dc = p.dc;
  da = p.da;
  map = p.map;
  leaving = leave;
  request = q;
}

-- completing registers the gainer and its shipper since the start day, and clears the request
abbrev pub completed : Option Request → Point → Point
completed None p = p
completed (Some r) p = registered (Some r.gainer) r.shipper (Some r.start) p.leaving None p

-- leaving clears the registration and the leaving day
abbrev pub left : Point → Point
left p = registered None None None None p.request p

abbrev pub turned : Turn → Point → Point
turned Confirmed p = with_request (option_map (in_state state.Confirmed) p.request) p
turned Secured p = with_request (option_map (in_state state.Secured) p.request) p
turned Completed p = completed p.request p
turned Left p = left p

-- a step's name in a reply
abbrev pub turn_name : Turn → List ℕ
turn_name Confirmed = codes "confirmed"
turn_name Secured = codes "secured"
turn_name Completed = codes "completed"
turn_name Left = codes "left"

-- Who is told of a change, and in which order.
use Rattle.std.specs.Prelude.{ℕ, Bool, true, false, cond, not, ◌&&◌, ◌||◌, List, [], ◌∷◌, is_some, Some, None, Option}
use Rattle.std.specs.Option.{option_map}
use Rattle.market.specs.declared.notices.Notice.{Notice}
use Rattle.market.specs.declared.notices.Role.{Role}
use Rattle.market.specs.declared.notices.Role.TheVariants.{Gainer, Supplier, GainingShipper, Shipper, Mem, Dc, Da, Map, Dcc, Des, GasAgent, Ecoes, ElectricityAgent}
use Rattle.market.specs.declared.points.Fuel.{Fuel}
use Rattle.market.specs.declared.points.Fuel.TheVariants.{Gas, Electricity}
use Rattle.market.specs.declared.points.Point.{Point}
use Rattle.market.specs.declared.points.Request.{Request}
use Rattle.market.specs.Numbers.{roles}
use Rattle.rules.specs.declared.sending.Audience.{Audience}
use Rattle.rules.specs.declared.sending.Audience.TheVariants.{Validation, Confirmation, Securing, Deregistration}
use Rattle.rules.specs.declared.sending.Mailing.{Mailing}

abbrev pub at_gas : Fuel → Bool
at_gas Gas = true
at_gas Electricity = false

-- the gainer's side hears of its request, and not of a deregistration
abbrev pub hears_gainer : Audience → Bool
hears_gainer Validation = true
hears_gainer Confirmation = true
hears_gainer Securing = true
hears_gainer Deregistration = false

-- the agents hear once the objection window is past
abbrev pub hears_agents : Audience → Bool
hears_agents Validation = false
hears_agents Confirmation = true
hears_agents Securing = true
hears_agents Deregistration = true

-- the meter asset provider hears of a secured change of supplier and of a deregistration
abbrev pub hears_provider : Audience → Bool
hears_provider Validation = false
hears_provider Confirmation = false
hears_provider Securing = true
hears_provider Deregistration = true

-- whether a role stands on the list
abbrev pub reaches : Audience → Fuel → Role → Bool
reaches a f Gainer = hears_gainer a
reaches a f Supplier = true
reaches a f GainingShipper = hears_gainer a && at_gas f
reaches a f Shipper = at_gas f
reaches a f Mem = hears_agents a
reaches a f Dc = hears_agents a && not (at_gas f)
reaches a f Da = hears_agents a && not (at_gas f)
reaches a f Map = hears_provider a
reaches a f Dcc = true
reaches a f Des = at_gas f
reaches a f GasAgent = at_gas f
reaches a f Ecoes = not (at_gas f)
reaches a f ElectricityAgent = not (at_gas f)

-- these drop out where nobody is registered
abbrev pub needs_supplier : Role → Bool
needs_supplier Gainer = false
needs_supplier Supplier = true
needs_supplier GainingShipper = false
needs_supplier Shipper = true
needs_supplier Mem = true
needs_supplier Dc = true
needs_supplier Da = true
needs_supplier Map = false
needs_supplier Dcc = false
needs_supplier Des = false
needs_supplier GasAgent = false
needs_supplier Ecoes = false
needs_supplier ElectricityAgent = false

abbrev pub gainer_of : Option Request → Option ℕ
gainer_of None = None
gainer_of (Some r) = Some r.gainer

abbrev pub gaining_shipper_of : Option Request → Option ℕ
gaining_shipper_of None = None
gaining_shipper_of (Some r) = r.shipper

-- who holds a role; a central service has the number 0
abbrev pub party_in : Point → Option Request → Role → Option ℕ
party_in p q Gainer = gainer_of q
party_in p q Supplier = p.supplier
party_in p q GainingShipper = gaining_shipper_of q
party_in p q Shipper = p.shipper
party_in p q Mem = p.mem
party_in p q Dc = p.dc
party_in p q Da = p.da
party_in p q Map = p.map
party_in p q Dcc = Some 0
party_in p q Des = Some 0
party_in p q GasAgent = Some 0
party_in p q Ecoes = Some 0
party_in p q ElectricityAgent = Some 0

-- the notice to a role, if the role stands on the list and somebody holds it
abbrev pub notice_to : Mailing → Role → Option Notice
notice_to m r =
    cond (reaches m.audience m.point.fuel r && (not (needs_supplier r) || is_some m.point.supplier))
    (option_map (λ party. record { point = m.point.number; moment = m.moment; party = party; kind = m.kind; role = r }) (party_in m.point m.request r))
    None

abbrev pub cons_some : {X : Type 0} → Option X → List X → List X
cons_some None xs = xs
cons_some (Some x) xs = x ∷ xs

-- the notices to some roles, in their order
abbrev pub notices_to : Mailing → List Role → List Notice
notices_to m [] = []
notices_to m (r ∷ rs) = cons_some (notice_to m r) (notices_to m rs)

-- all that a mailing owes, roles rising
abbrev pub mailed : Mailing → List Notice
mailed m = notices_to m roles

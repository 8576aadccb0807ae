-- The number of each case, and the case of a number.
use Rattle.std.specs.Prelude.{ℕ, cond, List, [], ◌∷◌, Some, None, Option, ◌==◌}
use Rattle.market.specs.declared.points.Fuel.{Fuel}
use Rattle.market.specs.declared.points.Fuel.TheVariants.{Gas, Electricity}
use Rattle.market.specs.declared.points.Status.{Status}
use Rattle.market.specs.declared.points.Status.TheVariants.{Created, Operational, Dormant, Terminated}
use Rattle.market.specs.declared.points.RequestState.{RequestState}
use Rattle.market.specs.declared.points.RequestState.TheVariants as state
use Rattle.market.specs.declared.points.RequestKind.{RequestKind}
use Rattle.market.specs.declared.points.RequestKind.TheVariants.{Switch, Initial}
use Rattle.market.specs.declared.notices.NoticeKind.{NoticeKind}
use Rattle.market.specs.declared.notices.NoticeKind.TheVariants as kind
use Rattle.market.specs.declared.notices.Role.{Role}
use Rattle.market.specs.declared.notices.Role.TheVariants as role
use Rattle.market.specs.declared.refusals.UnknownNumber.{UnknownNumber}
use Rattle.market.specs.declared.refusals.Refusal.{Refusal}
use Rattle.market.specs.declared.refusals.Refusal.TheVariants as row

abbrev pub fuel_number : Fuel → ℕ
fuel_number Gas = 1
fuel_number Electricity = 2

abbrev pub status_number : Status → ℕ
status_number Created = 1
status_number Operational = 2
status_number Dormant = 3
status_number Terminated = 4

abbrev pub state_number : RequestState → ℕ
state_number state.Validated = 1
state_number state.Confirmed = 2
state_number state.Secured = 3

abbrev pub request_kind_number : RequestKind → ℕ
request_kind_number Switch = 1
request_kind_number Initial = 2

abbrev pub notice_kind_number : NoticeKind → ℕ
notice_kind_number kind.Validated = 1
notice_kind_number kind.Invitation = 2
notice_kind_number kind.Confirmed = 3
notice_kind_number kind.Rejected = 4
notice_kind_number kind.Withdrawn = 5
notice_kind_number kind.Annulled = 6
notice_kind_number kind.Cancelled = 7
notice_kind_number kind.Secured = 8
notice_kind_number kind.Deregistered = 9
notice_kind_number kind.MemAppointed = 10

abbrev pub role_number : Role → ℕ
role_number role.Gainer = 1
role_number role.Supplier = 2
role_number role.GainingShipper = 3
role_number role.Shipper = 4
role_number role.Mem = 5
role_number role.Dc = 6
role_number role.Da = 7
role_number role.Map = 8
role_number role.Dcc = 9
role_number role.Des = 10
role_number role.GasAgent = 11
role_number role.Ecoes = 12
role_number role.ElectricityAgent = 13

abbrev pub refusal_number : Refusal → ℕ
refusal_number row.OutsideLimits = 1
refusal_number row.BeforeClock = 2
refusal_number row.StepDue = 3
refusal_number row.NoSuchPoint = 4
refusal_number row.AlreadyThere = 5
refusal_number row.NoPlace = 6
refusal_number row.DayNotAllowed = 7
refusal_number row.NotQualified = 8
refusal_number row.Sanctioned = 9
refusal_number row.WrongForFuel = 10
refusal_number row.RequestPending = 11
refusal_number row.WrongRegistration = 12
refusal_number row.LeavingStands = 13
refusal_number row.WrongStatus = 14
refusal_number row.Standstill = 15
refusal_number row.NothingPending = 16
refusal_number row.WrongSender = 17
refusal_number row.WrongState = 18
refusal_number row.OutboxFull = 19
refusal_number row.NotANotice = 20

-- the first of the cases whose number is n
abbrev pub numbered : {X : Type 0} → (X → ℕ) → List X → ℕ → Option X
numbered number [] n = None
numbered number (x ∷ xs) n = cond (n == number x) (Some x) (numbered number xs n)

abbrev pub fuel_of : ℕ → Option Fuel
fuel_of n = numbered fuel_number (Gas ∷ Electricity ∷ []) n

abbrev pub status_of : ℕ → Option Status
status_of n = numbered status_number (Created ∷ Operational ∷ Dormant ∷ Terminated ∷ []) n

-- the thirteen roles, rising
abbrev pub roles : List Role
roles = role.Gainer ∷ role.Supplier ∷ role.GainingShipper ∷ role.Shipper ∷ role.Mem ∷ role.Dc ∷ role.Da ∷ role.Map ∷ role.Dcc ∷ role.Des ∷ role.GasAgent ∷ role.Ecoes ∷ role.ElectricityAgent ∷ []

abbrev pub role_of : ℕ → Option Role
role_of n = numbered role_number roles n

-- the ten kinds of notice, rising
abbrev pub notice_kinds : List NoticeKind
notice_kinds = kind.Validated ∷ kind.Invitation ∷ kind.Confirmed ∷ kind.Rejected ∷ kind.Withdrawn ∷ kind.Annulled ∷ kind.Cancelled ∷ kind.Secured ∷ kind.Deregistered ∷ kind.MemAppointed ∷ []

abbrev pub notice_kind_of : ℕ → Option NoticeKind
notice_kind_of n = numbered notice_kind_number notice_kinds n

-- what is said of a number of no case
abbrev pub unknown : UnknownNumber
unknown = record {}

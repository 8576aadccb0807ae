-- What an accepted request and a step owe, and the request itself.
use Rattle.std.specs.Prelude.{ℕ, List, [], None, Option}
use Rattle.market.specs.declared.notices.Notice.{Notice}
use Rattle.market.specs.declared.notices.NoticeKind.TheVariants as kind
use Rattle.market.specs.declared.points.Point.{Point}
use Rattle.market.specs.declared.points.Request.{Request}
use Rattle.market.specs.declared.points.RequestKind.TheVariants.{Initial}
use Rattle.market.specs.declared.points.RequestState.TheVariants as state
use Rattle.rules.specs.declared.limits.Asked.{Asked}
use Rattle.rules.specs.declared.sending.Audience.TheVariants.{Confirmation, Securing}
use Rattle.rules.specs.declared.steps.Turn.{Turn}
use Rattle.rules.specs.declared.steps.Turn.TheVariants.{Confirmed, Secured, Completed, Left}
use Rattle.rules.specs.Notices.{mailed}

-- an initial request is Confirmed at once, and has no window
abbrev pub initial_request : Asked → Request
initial_request a = record { state = state.Confirmed; kind = Initial; gainer = a.gainer; shipper = a.shipper; start = a.start; window = None }

-- Confirmed owes its list, to the parties that the point held before and to the request's own
abbrev pub owed_confirmed : Point → Option Request → ℕ → List Notice
owed_confirmed p q clock = mailed (record { kind = kind.Confirmed; audience = Confirmation; point = p; request = q; moment = clock })

abbrev pub owed_secured : Point → Option Request → ℕ → List Notice
owed_secured p q clock = mailed (record { kind = kind.Secured; audience = Securing; point = p; request = q; moment = clock })

-- what a step owes; completing and leaving owe nothing
abbrev pub owed_at : Turn → Point → ℕ → List Notice
owed_at Confirmed p clock = owed_confirmed p p.request clock
owed_at Secured p clock = owed_secured p p.request clock
owed_at Completed p clock = []
owed_at Left p clock = []

-- What an accepted call does.
use Rattle.std.specs.Prelude.{ℕ, max, Bool, true, false, List, [], Some, None, Option}
use Rattle.market.specs.declared.notices.Notice.{Notice}
use Rattle.market.specs.declared.points.Point.{Point}
use Rattle.rules.specs.declared.limits.Asked.{Asked}
use Rattle.rules.specs.declared.steps.Step.{Step}
use Rattle.rules.specs.Changes.{initial_request, owed_confirmed, owed_at}
use Rattle.rules.specs.Steps.{turned, with_request}
use Rattle.engine.specs.declared.calls.Answer.{Answer}
use Rattle.engine.specs.declared.calls.Answer.TheVariants.{Done, Stepped, Reached}

-- the point that is stored, whether it is a new one, the notices owed, the clock after, and the answer
pub record Effect : Type 0 where
  pub stored : Option Point
  pub joins : Bool
  pub owed : List Notice
  pub clock : ℕ
  pub answer : Answer

-- a new point joins
abbrev pub creating : Point → ℕ → Effect
creating p clock = record { stored = Some p; joins = true; owed = []; clock = clock; answer = Done }

-- a point that is there changes
abbrev pub changing : Point → List Notice → ℕ → Answer → Effect
changing p owed clock a = record { stored = Some p; joins = false; owed = owed; clock = clock; answer = a }

-- the point takes the request, which is Confirmed
abbrev pub requesting : Asked → Point → ℕ → Effect
requesting a p clock = changing (with_request (Some (initial_request a)) p) (owed_confirmed p (Some (initial_request a)) clock) clock Done

-- the step is done, and the clock becomes the later of itself and the step's moment
abbrev pub stepping : Step → ℕ → Effect
stepping s clock = changing (turned s.turn s.point) (owed_at s.turn s.point clock) clock (Stepped s.point.number s.turn s.moment)

-- with no step the clock becomes the moment named
abbrev pub advancing : ℕ → ℕ → Option Step → Effect
advancing moment clock None = record { stored = None; joins = false; owed = []; clock = moment; answer = Reached moment }
advancing moment clock (Some s) = stepping s (max clock s.moment)

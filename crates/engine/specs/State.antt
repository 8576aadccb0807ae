-- What register, outbox and clock hold, as plain values.
use Rattle.std.specs.Prelude.{ℕ, Bool, Option}
use Rattle.market.specs.declared.points.Point.{Point}
use Rattle.market.specs.Stores.{Registered, Queue}
use Rattle.engine.specs.declared.engines.Engine.{Engine}

pub record State : Type 0 where
  pub look : ℕ → Option Point
  pub place : ℕ → Bool
  pub clock : ℕ
  pub queue : Queue

-- the state of an engine over a register of this meaning, beside an outbox
abbrev pub state_of : {R : Type 0} → (R → Registered) → Engine R → Queue → State
state_of known e q = record { look = (known e.register).look; place = (known e.register).place; clock = e.clock; queue = q }

-- the same, beside an outbox of this meaning
abbrev pub view_of : {R O : Type 0} → (R → Registered) → (O → Queue) → Engine R → O → State
view_of known queue e o = state_of known e (queue o)

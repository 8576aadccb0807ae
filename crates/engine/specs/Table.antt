-- The rows that a call meets after its numbers were found within their limits, in the table's order.
use Rattle.std.specs.Prelude.{ℕ, not, List, [], ◌∷◌, length, is_some, Option, nat_lt}
use Rattle.market.specs.declared.points.Point.{Point}
use Rattle.market.specs.declared.refusals.Refusal.TheVariants.{BeforeClock, StepDue, AlreadyThere, NoPlace, OutboxFull}
use Rattle.rules.specs.declared.steps.Step.{Step}
use Rattle.rules.specs.Rows.{Row, row}
use Rattle.engine.specs.State.{State}
use Rattle.engine.specs.Effects.{Effect}

-- row 2: advance to before the clock
abbrev pub backwards : State → ℕ → List Row
backwards s moment = row BeforeClock (nat_lt moment s.clock) ∷ []

-- row 3: a step is due
abbrev pub overdue : Option Step → List Row
overdue due = row StepDue (is_some due) ∷ []

-- rows 5 and 6: the number is there, or it has no place
abbrev pub newcomer : State → Point → List Row
newcomer s p = row AlreadyThere (is_some (s.look p.number)) ∷ row NoPlace (not (s.place p.number)) ∷ []

-- row 19: fewer places free than notices owed
abbrev pub crowded : State → Effect → List Row
crowded s e = row OutboxFull (nat_lt s.queue.room (length e.owed)) ∷ []

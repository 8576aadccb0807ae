-- The earliest step of a register's points, the lowest point first among equals.
use Rattle.std.specs.Prelude.{◌≡◌, ℕ, ◌<◌, ◌≤◌, cond, ◌⊎◌, IfSome, Some, None, Option, MatchOption, nat_le, nat_lt}
use Rattle.market.specs.declared.points.Point.{Point}
use Rattle.rules.specs.declared.steps.Step.{Step}
use Rattle.rules.specs.Steps.{step_of}

-- a step that does not come before s: later, or at the same moment of a point k that is not lower
abbrev pub NotBefore : Step → ℕ → Step → Type 0
NotBefore s k t = (s.moment < t.moment) ⊎ ((s.moment ≡ t.moment) × (s.point.number ≤ k))

-- s is the step of a point below n, not after `upto`, and no step of a point below n comes before it
pub record First (look : ℕ → Option Point) (upto n : ℕ) (s : Step) : Type 0 where
  pub there : look s.point.number ≡ Some s.point
  pub below : s.point.number < n
  pub own : step_of s.point ≡ Some s
  pub due : s.moment ≤ upto
  pub first : (k : ℕ) (p : Point) → k < n → look k ≡ Some p → IfSome (step_of p) (NotBefore s k)

-- no point below n has a step up to the moment
abbrev pub NoneUpTo : (ℕ → Option Point) → ℕ → ℕ → Type 0
NoneUpTo look upto n = (k : ℕ) (p : Point) → k < n → look k ≡ Some p → IfSome (step_of p) (λ t. upto < t.moment)

-- the earliest step up to the moment of the points numbered below n, or nothing where there is none
abbrev pub Earliest : (ℕ → Option Point) → ℕ → ℕ → Option Step → Type 0
Earliest look upto n o = MatchOption o (NoneUpTo look upto n) (First look upto n)

-- the step that is done first of one that was found and the step of a higher point
abbrev pub sooner : ℕ → Option Step → Option Step → Option Step
sooner upto best None = best
sooner upto None (Some t) = cond (nat_le t.moment upto) (Some t) None
sooner upto (Some s) (Some t) = cond (nat_lt t.moment s.moment) (Some t) (Some s)

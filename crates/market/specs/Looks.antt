-- A register as a function from numbers to points.
use Rattle.std.specs.Prelude.{◌≡◌, ℕ, ◌<◌, ◌≤◌, Bool, cond, ◌&&◌, Some, None, Option, MatchOption, ◌==◌}
use Rattle.market.specs.declared.points.Point.{Point}

-- the look-up f, with p at its number where b says so
abbrev pub put_at : Bool → Point → (ℕ → Option Point) → ℕ → Option Point
put_at b p f k = cond (b && p.number == k) (Some p) (f k)

-- p is what f has at the lowest number from n on
pub record Lowest (f : ℕ → Option Point) (n : ℕ) (p : Point) : Type 0 where
  pub from : n ≤ p.number
  pub there : f p.number ≡ Some p
  pub none : (k : ℕ) → n ≤ k → k < p.number → f k ≡ None

-- r is the lowest point from n on, or nothing where there is none
abbrev pub LowestFrom : (ℕ → Option Point) → ℕ → Option Point → Type 0
LowestFrom f n r = MatchOption r ((k : ℕ) → n ≤ k → f k ≡ None) (Lowest f n)

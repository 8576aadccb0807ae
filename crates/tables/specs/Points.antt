-- A point's key.
use Rattle.std.specs.Prelude.{ℕ}
use Rattle.market.specs.declared.points.Point.{Point}

abbrev pub number_of : Point → ℕ
number_of p = p.number

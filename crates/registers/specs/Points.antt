-- Points in a list, as a look-up by number.
use Rattle.std.specs.Prelude.{ℕ, Bool, not, ◌&&◌, List, length, is_some, Option, nat_lt}
use Rattle.std.specs.Ordering.{nat_cmp}
use Rattle.market.specs.declared.points.Point.{Point}
use Rattle.market.specs.Stores.{Registered}
use Rattle.tables.specs.Keys.{find}
use Rattle.tables.specs.Points.{number_of}
use Rattle.tables.specs.Tables.{Records}

-- the point with the number k
abbrev pub point_in : List Point → ℕ → Option Point
point_in xs k = find number_of nat_cmp k xs

-- the number k is absent, and fewer than n points are held
abbrev pub place_in : List Point → ℕ → ℕ → Bool
place_in xs n k = not (is_some (point_in xs k)) && nat_lt (length xs) n

-- what records of points mean as a register
abbrev pub points_of : Records Point → Registered
points_of t = record { look = point_in t.items; place = place_in t.items t.size }

-- Points in the order of their arrival.
use Rattle.std.specs.Prelude.{◌≡◌, ℕ, ◌<◌, ◌≤◌, Bool, true, cond, not, ◌&&◌, List, [], ◌∷◌, length, is_some, Some, None, Option, nat_le, nat_lt, slice_index_or, slice_set}
use Rattle.std.specs.Ordering.{nat_cmp}
use Rattle.market.specs.declared.points.Point.{Point}
use Rattle.tables.specs.Keys.{swap}
use Rattle.tables.specs.Points.{number_of}
use Rattle.tables.specs.Tables.{Records}
use Rattle.registers.specs.Points.{point_in}

-- no two of the points have one number
abbrev pub apart : List Point → Bool
apart [] = true
apart (x ∷ xs) = not (is_some (point_in xs x.number)) && apart xs

abbrev pub Apart : List Point → Type 0
Apart xs = apart xs ≡ true

-- no more points than there is room for, and no two of them have one number
abbrev pub Arrived : Records Point → Type 0
Arrived t = (length t.items ≤ t.size) × Apart t.items

-- the point with the number k stands at i: what is found and changed there
pub record Stands (xs : List Point) (k i : ℕ) : Type 0 where
  pub within : i < length xs
  pub named : (d : Point) → (slice_index_or xs i d).number ≡ k
  pub there : (d : Point) → point_in xs k ≡ Some (slice_index_or xs i d)
  pub changed : (p : Point) → p.number ≡ k → slice_set xs i p ≡ swap number_of nat_cmp p xs

-- the lower of x, where its number is n or above, and the lowest so far
abbrev pub lower : ℕ → Point → Option Point → Option Point
lower n x None = cond (nat_le n x.number) (Some x) None
lower n x (Some y) = cond (nat_le n x.number && nat_lt x.number y.number) (Some x) (Some y)

-- Days by number, day 0 a Monday, and which of them work.
use Rattle.std.specs.Prelude.{ℕ, ◌%◌, Bool, not, ◌&&◌, List, ◌==◌, nat_lt}
use Rattle.std.specs.List.{list_any}

-- Monday to Friday, except the holidays
abbrev pub weekday : List ℕ → ℕ → Bool
weekday holidays d = nat_lt (d % 7) 5 && not (list_any (λ holiday. holiday == d) holidays)

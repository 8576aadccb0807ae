-- A bit for each day: day d has bit d mod 8, the lowest being bit 0, of byte d / 8.
use Rattle.std.specs.Prelude.{ℕ, ◌/◌, ◌%◌, ◌^◌, Bool, ◌&&◌, List, length, ◌==◌, nat_lt, slice_index}

-- whether a bit of a byte is set
abbrev pub is_set : ℕ → ℕ → Bool
is_set byte bit = byte / 2 ^ bit % 2 == 1

-- the day has a byte, and its bit is set there
abbrev pub marked : List ℕ → ℕ → Bool
marked bytes d = nat_lt (d / 8) (length bytes) && is_set (slice_index bytes (d / 8)) (d % 8)

-- The numbers of a point and of a party, and a yes or no.
use Rattle.std.specs.Prelude.{ℕ, Bool, cond, ◌&&◌, Some, None, Option, ◌==◌, nat_le}

abbrev pub is_point : ℕ → Bool
is_point n = nat_le 1 n && nat_le n 9999999999999

abbrev pub is_party : ℕ → Bool
is_party n = nat_le 1 n && nat_le n 65535

-- 0 is nobody
abbrev pub party_or_none : ℕ → Option ℕ
party_or_none n = cond (n == 0) None (Some n)

-- a party's number, or 0
abbrev pub party_of : ℕ → Option (Option ℕ)
party_of n = cond (nat_le n 65535) (Some (party_or_none n)) None

abbrev pub is_yes_no : ℕ → Bool
is_yes_no n = nat_le n 1

abbrev pub yes_no_of : ℕ → Option Bool
yes_no_of n = cond (is_yes_no n) (Some (n == 1)) None

-- A field's number: 1 to 13 decimal digits, and the number that they write, each digit by the weight of its place.
use Rattle.std.specs.Prelude.{ℕ, ◌+◌, ◌-◌, ◌*◌, ◌^◌, Bool, cond, ◌&&◌, List, [], ◌∷◌, length, Some, None, Option, nat_le}
use Rattle.std.specs.Char.{is_ascii_digit}
use Rattle.std.specs.List.{list_all}

abbrev pub is_numeral : List ℕ → Bool
is_numeral w = nat_le 1 (length w) && nat_le (length w) 13 && list_all is_ascii_digit w

abbrev pub weighed : List ℕ → ℕ
weighed [] = 0
weighed (c ∷ cs) = (c - 48) * 10 ^ length cs + weighed cs

abbrev pub numeral : List ℕ → Option ℕ
numeral w = cond (is_numeral w) (Some (weighed w)) None

-- The working days after a day, and the n-th of them.
use Rattle.std.specs.Prelude.{◌≡◌, ℕ, zero, suc, ◌+◌, ◌^◌, ◌<◌, ◌≤◌, Bool, true, cond, ◌&&◌, Option, MatchOption, nat_lt}

-- how many working days lie strictly between two days
abbrev pub working_between : (ℕ → Bool) → ℕ → ℕ → ℕ
working_between works day zero = 0
working_between works day (suc e) = working_between works day e + cond (nat_lt day e && works e) 1 0

-- e is the n-th working day after the day. The days looked at are the 28 after it, as far as their
-- numbers fit 32 bits; the day itself is not one of them
pub record NthWorkingDay (works : ℕ → Bool) (day n e : ℕ) : Type 0 where
  pub after : day < e
  pub within : e ≤ day + 28
  pub fits : e < 2 ^ 32
  pub works_then : works e ≡ true
  pub earlier : working_between works day e + 1 ≡ n

-- r is the n-th working day after the day, or nothing where there is no such day
abbrev pub FoundNth : (ℕ → Bool) → ℕ → ℕ → Option ℕ → Type 0
FoundNth works day n r = MatchOption r ((e : ℕ) → NthWorkingDay works day n e → ⊥) (NthWorkingDay works day n)

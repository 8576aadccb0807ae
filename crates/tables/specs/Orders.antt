-- Orders of keys.
use Rattle.std.specs.Prelude.{◌≡◌, ℕ}
use Rattle.std.specs.Ordering.{nat_cmp, ordering_then}
use Rattle.std.specs.declared.cmp.Ordering.{Ordering}
use Rattle.std.specs.declared.cmp.Ordering.TheVariants.{Equal}

-- keys that compare as equal are one key
abbrev pub Exact : {K : Type 0} → (K → K → Ordering) → Type 0
Exact {K} cmp = (a b : K) → cmp a b ≡ Equal → a ≡ b

-- pairs by their first parts, and where these are the same by the second
abbrev pub pair_cmp : ℕ × ℕ → ℕ × ℕ → Ordering
pair_cmp a b = ordering_then (nat_cmp a.0 b.0) (nat_cmp a.1 b.1)

-- Two registers as one.
use Rattle.std.specs.Prelude.{ℕ, ltb, if◌then◌else◌}
use Rattle.market.specs.Stores.{Registered}
use Rattle.registers.specs.declared.split.Split.{Split}

-- the first below the bound, the second from it up
abbrev pub split_at : ℕ → Registered → Registered → Registered
split_at bound first second = record {
  look = λ k. if ltb k bound then first.look k else second.look k;
  place = λ k. if ltb k bound then first.place k else second.place k;
}

-- what a split means, from what its two registers mean
abbrev pub known_of : {A B : Type 0} → (A → Registered) → (B → Registered) → Split A B → Registered
known_of a b s = split_at s.bound (a s.first) (b s.second)

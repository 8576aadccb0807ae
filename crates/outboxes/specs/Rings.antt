-- A ring of places: what stands in it from a first place on, and round at the end.
use Rattle.std.specs.Prelude.{ℕ, ◌-◌, List, [], ◌++◌, length, take, drop}
use Rattle.market.specs.declared.notices.Notice.{Notice}
use Rattle.market.specs.Stores.{Queue}

-- the places from the first on, and round
abbrev pub rolled : {X : Type 0} → List X → ℕ → List X
rolled xs first = drop first xs ++ take first xs

-- so many of them
abbrev pub ring : {X : Type 0} → List X → ℕ → ℕ → List X
ring xs first count = take count (rolled xs first)

-- the outbox in which so many notices wait, from the first place on
abbrev pub queue_of : List Notice → ℕ → ℕ → Queue
queue_of notices first count = record {
  waiting = ring notices first count;
  room = length notices - count;
  size = length notices;
}

-- an outbox of a size, in which none waits
abbrev pub empty : ℕ → Queue
empty size = record { waiting = []; room = size; size = size }

-- A waiting list: its oldest, and the others.
use Rattle.std.specs.Prelude.{List, [], ◌∷◌, Some, None, Option}

abbrev pub oldest : {X : Type 0} → List X → Option X
oldest [] = None
oldest (x ∷ xs) = Some x

abbrev pub others : {X : Type 0} → List X → List X
others [] = []
others (x ∷ xs) = xs

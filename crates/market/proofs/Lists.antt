-- Facts about lists and options that several stores need.
use Rattle.std.proofs.Common.{◌≡◌, ℕ, zero, suc, Bool, true, false, not, ◌&&◌, List, [], ◌∷◌, take, set, is_some, Some, None, Option, refl, ap, arith}

pub set-take : {X : Type 0} (n : ℕ) (xs : List X) (i : ℕ) (x : X) → set (take n xs) i x ≡ take n (set xs i x)
set-take zero xs i x = refl
set-take (suc n) [] i x = refl
set-take (suc n) (y ∷ ys) zero x = refl
set-take (suc n) (y ∷ ys) (suc i) x = ap (λ l. y ∷ l) (set-take n ys i x)

pub not_some : {X : Type 0} (o : Option X) → is_some o ≡ false → o ≡ None
not_some None h = refl
not_some (Some y) h = grind arith

-- where something is free, nothing was found
pub free_none : {X : Type 0} (o : Option X) (b : Bool) → true ≡ not (is_some o) && b → o ≡ None
free_none None b h = refl
free_none (Some x) b h = grind arith

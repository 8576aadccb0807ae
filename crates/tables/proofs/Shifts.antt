-- What stands first in a list after a write there, and after a copy one place up with a write in the gap.
use Rattle.std.proofs.Common.{◌≡◌, ℕ, ◌+◌, ◌-◌, ◌<◌, ◌≤◌, List, [], ◌∷◌, ◌++◌, length, take, drop, set, refl, sym, ap, ◌∙◌, arith, length-append, length-take, length-drop, length-take-le, append_assoc}
use Rattle.std.specs.List.{insert, copy_within}
use Rattle.std.proofs.lemmas.List.{set-append_left, take_at, take-take, drop-take, take_more_set}
use Rattle.market.proofs.Lists.{set-take}

pub ruleset writes = (set-take)

pub inserted : {X : Type 0} (xs : List X) (count at : ℕ) (x : X) → count < length xs → at ≤ count → take (count + 1) (set (copy_within xs at count (at + 1)) at x) ≡ insert (take count xs) at x
inserted xs count at x room within =
    let A = take (at + 1) xs in
    let B = take (count - at) (drop at xs) in
    let C = drop (at + 1 + (count - at)) xs in
    let front : length A ≡ at + 1 = length-take-le (at + 1) xs (omega arith) in
    let write : set ((A ++ B) ++ C) at x ≡ ((take at xs ++ x ∷ []) ++ B) ++ C =
    set-append_left (A ++ B) C at x (omega (arith, length-append A B)) ∙ ap (λ zs. zs ++ C) (set-append_left A B at x (omega arith) ∙ ap (λ zs. zs ++ B) (set-take (at + 1) xs at x ∙ take_more_set xs at x (omega arith))) in
    let long : length ((take at xs ++ x ∷ []) ++ B) ≡ count + 1 = omega (arith, length-append (take at xs ++ x ∷ []) B, length-append (take at xs) (x ∷ []), length-take-le at xs (omega arith), length-take (count - at) (drop at xs), length-drop at xs) in
    let rest : drop at (take count xs) ≡ B = ap (λ n. drop at (take n xs)) {x = count} {y = at + (count - at)} (omega arith) ∙ drop-take at (count - at) xs in
    ap (take (count + 1)) write ∙ take_at ((take at xs ++ x ∷ []) ++ B) C (count + 1) long ∙ append_assoc (take at xs) (x ∷ []) B ∙ sym (rw (take-take at count xs within, rest) refl)

-- What a ring holds after an addition at its end and a removal at its start.
use Rattle.std.proofs.Common.{◌≡◌, ℕ, suc, ◌+◌, ◌-◌, ◌%◌, ◌<◌, ◌≤◌, List, [], ◌∷◌, ◌++◌, Some, length, get_or, take, drop, set, sym, ap, ◌∙◌, ⊎_elim, arith}
use Rattle.std.specs.List.{slice_get}
use Rattle.std.proofs.Math.Nat.{mod-eq_of_lt, add-mod_left, mod_self}
use Rattle.std.proofs.lemmas.Bool.{cases_lt}
use Rattle.std.proofs.lemmas.Option.{get_or_from_slice_get}
use Rattle.std.proofs.lemmas.List.{append-nil, append_assoc, length-append, length-drop, length-take-le, take_all, drop_all, take-append-le, take-set-le, drop-set-lt, drop-set-add, set-append_left, set-append_right, take_more_set, drop_more, take_more}
use Rattle.market.proofs.Lists.{set-take}
use Rattle.outboxes.specs.Rings.{rolled, ring}

module _ {X : Type 0} (xs : List X) (f : ℕ) (start : f ≤ length xs) where
  length-rolled : length (rolled xs f) ≡ length xs
  length-rolled =
      let a = length-append (drop f xs) (take f xs) in
      let d = length-drop f xs in
      let t = length-take-le f xs start in omega arith

  -- as many as there are said to be
  pub length-ring : (c : ℕ) → c ≤ length xs → length (ring xs f c) ≡ c
  length-ring c l = let r = length-rolled in length-take-le c (rolled xs f) (omega arith)

  -- where the next one goes
  rolled-set : (c : ℕ) (v : X) → c < length xs → rolled (set xs ((f + c) % length xs) v) f ≡ set (rolled xs f) c v
  rolled-set c v l =
      let d = length-drop f xs in
      ⊎_elim
      (λ h.
      let at : (f + c) % length xs ≡ f + c = mod-eq_of_lt (omega arith) in
      let back = drop-set-add f xs c v in
      let front = take-set-le f xs (f + c) v (omega arith) in
      let joined = set-append_left (drop f xs) (take f xs) c v (omega arith) in cc)
      (λ h.
      let k : ℕ = c - (length xs - f) in
      let past : f + c ≡ length xs + k = omega arith in
      let at : (f + c) % length xs ≡ k = ap (λ n. n % length xs) past ∙ add-mod_left (length xs) k ∙ mod-eq_of_lt (omega arith) in
      let back = drop-set-lt f xs k v (omega arith) in
      let front = set-take f xs k v in
      let joined = set-append_right (drop f xs) (take f xs) (length xs - f) c v d h in cc)
      (cases_lt c (length xs - f))

  pub ring_put : (c : ℕ) (v : X) → c < length xs → ring (set xs ((f + c) % length xs) v) f (c + 1) ≡ ring xs f c ++ v ∷ []
  ring_put c v l =
      let r = length-rolled in
      ap (take (c + 1)) (rolled-set c v l) ∙ take_more_set (rolled xs f) c v (omega arith)

-- one place on
module _ {X : Type 0} (xs : List X) where
  rolled_next : (f k : ℕ) (x : X) → f < length xs → slice_get xs f ≡ Some x → k < length xs → take (suc k) (rolled xs f) ≡ x ∷ take k (rolled xs (f + 1))
  rolled_next f k x l read h =
      let there : get_or xs f x ≡ x = get_or_from_slice_get xs f x x read in
      let more : drop f xs ≡ x ∷ drop (f + 1) xs = drop_more xs f x l ∙ ap (λ y. y ∷ drop (f + 1) xs) there in
      let last : take (f + 1) xs ≡ take f xs ++ x ∷ [] = take_more xs f x l ∙ ap (λ y. take f xs ++ y ∷ []) there in
      let long = length-append (drop (f + 1) xs) (take f xs) in
      let d = length-drop (f + 1) xs in
      let t = length-take-le f xs (omega arith) in
      let after : rolled xs (f + 1) ≡ (drop (f + 1) xs ++ take f xs) ++ x ∷ [] = ap (λ y. drop (f + 1) xs ++ y) last ∙ sym (append_assoc (drop (f + 1) xs) (take f xs) (x ∷ [])) in
      let cut = take-append-le k (drop (f + 1) xs ++ take f xs) (x ∷ []) (omega arith) in
      ap (λ y. take (suc k) (y ++ take f xs)) more ∙ ap (λ y. x ∷ y) (sym (ap (take k) after ∙ cut))

  -- the place after the last is the first
  rolled_round : (f : ℕ) → f < length xs → rolled xs (f + 1) ≡ rolled xs ((f + 1) % length xs)
  rolled_round f l =
      ⊎_elim
      (λ h. ap (rolled xs) (sym (mod-eq_of_lt (omega arith))))
      (λ h.
      let end : f + 1 ≡ length xs = omega arith in
      let at : (f + 1) % length xs ≡ 0 = ap (λ n. n % length xs) end ∙ mod_self (length xs) in
      let d = drop_all (f + 1) xs (omega arith) in
      let t = take_all (f + 1) xs (omega arith) in
      let n = append-nil xs in
      let round : rolled xs (f + 1) ≡ rolled xs 0 = cc in
      round ∙ ap (rolled xs) (sym at))
      (cases_lt (f + 1) (length xs))

  pub ring_take : (f c : ℕ) (x : X) → 0 < c → c ≤ length xs → f < length xs → slice_get xs f ≡ Some x → ring xs f c ≡ x ∷ ring xs ((f + 1) % length xs) (c - 1)
  ring_take f c x p l s read =
      let k : c ≡ suc (c - 1) = omega arith in
      ap (λ n. take n (rolled xs f)) k ∙ rolled_next f (c - 1) x s read (omega arith) ∙ ap (λ y. x ∷ take (c - 1) y) (rolled_round f s)

-- what an outbox's calls need
pub ruleset counts = length-ring

pub ruleset puts = (length-ring, ring_put)

pub ruleset takes = (length-ring, ring_take)

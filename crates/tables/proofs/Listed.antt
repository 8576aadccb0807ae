-- What `find`, `seek`, `join` and `swap` give, by the records of a list in any order.
use Rattle.std.proofs.Common.{◌≡◌, ℕ, zero, suc, ◌<◌, ◌≤◌, true, false, cond, ◌&&◌, List, [], ◌∷◌, length, get_or, set, slice_get, is_some, Some, None, refl, arith}
use Rattle.std.proofs.lemmas.Cmp.{eq_by_cmp_equiv}
use Rattle.std.specs.Cmp.{IsTotalOrder}
use Rattle.std.specs.List.{insert}
use Rattle.std.specs.Ordering.{is_eq, is_gt, is_lt}
use Rattle.std.specs.declared.cmp.Ordering.{Ordering}
use Rattle.tables.specs.Keys.{find, seek, join, swap}

module _ {X K : Type 0} (own : X → K) (cmp : K → K → Ordering) where
  pub swap_none : (x : X) (xs : List X) → find own cmp (own x) xs ≡ None → swap own cmp x xs ≡ xs
  swap_none x [] h = refl
  swap_none x (y ∷ ys) h = let ih = swap_none x ys in grind arith

  -- ---- by places
  pub find_none : (k : K) (xs : List X) → ((j : ℕ) (d : X) → j < length xs → is_eq (cmp (own (get_or xs j d)) k) ≡ false) → find own cmp k xs ≡ None
  find_none k [] h = refl
  find_none k (x ∷ xs) h =
      let ih = find_none k xs (λ j d l. h (suc j) d (omega arith)) in
      let here = h 0 x (omega arith) in grind arith

  pub find_at : (k : K) (xs : List X) (i : ℕ) (d : X) → i < length xs → is_eq (cmp (own (get_or xs i d)) k) ≡ true → ((j : ℕ) (e : X) → j < i → is_eq (cmp (own (get_or xs j e)) k) ≡ false) → find own cmp k xs ≡ Some (get_or xs i d)
  find_at k [] i d l e h = absurd (omega arith)
  find_at k (x ∷ xs) zero d l e h = grind arith
  find_at k (x ∷ xs) (suc i) d l e h =
      let ih = find_at k xs i d (omega arith) e (λ j f m. h (suc j) f (omega arith)) in
      let here = h 0 x (omega arith) in grind arith

  pub seek_at : (k : K) (xs : List X) (i : ℕ) → i ≤ length xs → ((j : ℕ) (d : X) → j < i → is_lt (cmp (own (get_or xs j d)) k) ≡ true) → ((d : X) → i < length xs → is_lt (cmp (own (get_or xs i d)) k) ≡ false) → seek own cmp k xs ≡ slice_get xs i
  seek_at k [] i l b a = refl
  seek_at k (x ∷ xs) zero l b a = let here = a x (omega arith) in grind arith
  seek_at k (x ∷ xs) (suc i) l b a =
      let ih = seek_at k xs i (omega arith) (λ j d m. b (suc j) d (omega arith)) (λ d m. a d (omega arith)) in
      let here = b 0 x (omega arith) in grind arith

  pub join_at : (x : X) (xs : List X) (i : ℕ) → i ≤ length xs → ((j : ℕ) (d : X) → j < i → is_gt (cmp (own (get_or xs j d)) (own x)) ≡ false) → ((d : X) → i < length xs → is_gt (cmp (own (get_or xs i d)) (own x)) ≡ true) → join own cmp x xs ≡ insert xs i x
  join_at x [] zero l b a = refl
  join_at x [] (suc i) l b a = absurd (omega arith)
  join_at x (y ∷ ys) zero l b a = let here = a y (omega arith) in grind arith
  join_at x (y ∷ ys) (suc i) l b a =
      let ih = join_at x ys i (omega arith) (λ j d m. b (suc j) d (omega arith)) (λ d m. a d (omega arith)) in
      let here = b 0 y (omega arith) in grind arith

  pub swap_at : (x : X) (xs : List X) (i : ℕ) (d : X) → i < length xs → is_eq (cmp (own (get_or xs i d)) (own x)) ≡ true → ((j : ℕ) (e : X) → j < i → is_eq (cmp (own (get_or xs j e)) (own x)) ≡ false) → swap own cmp x xs ≡ set xs i x
  swap_at x [] i d l e h = absurd (omega arith)
  swap_at x (y ∷ ys) zero d l e h = grind arith
  swap_at x (y ∷ ys) (suc i) d l e h =
      let ih = swap_at x ys i d (omega arith) e (λ j f m. h (suc j) f (omega arith)) in
      let here = h 0 y (omega arith) in grind arith

module _ {X K : Type 0} (own : X → K) (cmp : K → K → Ordering) (total : IsTotalOrder cmp) where
  -- ---- every key after a join and a swap
  pub find-join : (x : X) (xs : List X) (k : K) → find own cmp (own x) xs ≡ None → find own cmp k (join own cmp x xs) ≡ cond (is_eq (cmp (own x) k)) (Some x) (find own cmp k xs)
  find-join x [] k none = refl
  find-join x (y ∷ ys) k none =
      let ih = find-join x ys k in
      let alike = eq_by_cmp_equiv total in
      let back = alike.symm (own x) k in
      let along = alike.congr (own y) k (own x) in
      grind arith

  pub find-swap : (x : X) (xs : List X) (k : K) → find own cmp k (swap own cmp x xs) ≡ cond (is_some (find own cmp (own x) xs) && is_eq (cmp (own x) k)) (Some x) (find own cmp k xs)
  find-swap x [] k = refl
  find-swap x (y ∷ ys) k =
      let ih = find-swap x ys k in
      let alike = eq_by_cmp_equiv total in
      let back = alike.symm (own x) k in
      let along = alike.congr (own y) k (own x) in
      let across = alike.congr (own y) (own x) k in
      grind arith

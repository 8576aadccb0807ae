-- Lists of records in the order of their keys.
use Rattle.std.proofs.Common.{◌≡◌, ℕ, zero, suc, ◌+◌, ◌<◌, true, false, cond, ◌&&◌, List, [], ◌∷◌, length, get_or, Option, Some, None, refl, arith}
use Rattle.std.proofs.lemmas.Bool.{and_parts}
use Rattle.std.proofs.lemmas.Cmp.{alike_right}
use Rattle.std.specs.Cmp.{IsTotalOrder}
use Rattle.std.specs.List.Sorted.{IsSortedBy}
use Rattle.std.specs.Ordering.{is_eq, is_gt, is_lt}
use Rattle.std.specs.declared.cmp.Ordering.{Ordering}
use Rattle.std.specs.declared.cmp.Ordering.TheVariants.{Less, Equal, Greater}
use Rattle.tables.specs.Keys.{find, seek, join, swap, below_all, in_order}
use Rattle.tables.specs.Places.{IsFirstFrom}
use Rattle.tables.proofs.Orders.{Less-from_test, Equal-from_test, alike_self, below_from}

module _ {X K : Type 0} (own : X → K) (cmp : K → K → Ordering) (total : IsTotalOrder cmp) where
  below_at : (k : K) (xs : List X) → below_all own cmp k xs ≡ true → (j : ℕ) (d : X) → j < length xs → cmp k (own (get_or xs j d)) ≡ Less
  below_at k [] h j d l = absurd (omega arith)
  below_at k (x ∷ xs) h zero d l = Less-from_test _ (and_parts _ _ h).0
  below_at k (x ∷ xs) h (suc j) d l = below_at k xs (and_parts _ _ h).1 j d (omega arith)

  -- each key is below those further on
  pub apart : (xs : List X) → in_order own cmp xs ≡ true → (i j : ℕ) (d : X) → i < j → j < length xs → cmp (own (get_or xs i d)) (own (get_or xs j d)) ≡ Less
  apart [] h i j d m n = absurd (omega arith)
  apart (x ∷ xs) h i zero d m n = absurd (omega arith)
  apart (x ∷ xs) h zero (suc j) d m n = below_at (own x) xs (and_parts _ _ h).0 j d (omega arith)
  apart (x ∷ xs) h (suc i) (suc j) d m n = apart xs (and_parts _ _ h).1 i j d (omega arith) (omega arith)

  -- as a search by halving asks
  pub neighbours : (xs : List X) → in_order own cmp xs ≡ true → IsSortedBy (λ a b. is_lt (cmp (own a) (own b))) xs
  neighbours xs h i d _ l = rw (total.antisymm (own (get_or xs (i + 1) d)) (own (get_or xs i d)), apart xs h i (i + 1) d (omega arith) l) refl

  -- ---- in order after a join and a swap
  below_all_further : (a b : K) (xs : List X) → cmp a b ≡ Less → below_all own cmp b xs ≡ true → below_all own cmp a xs ≡ true
  below_all_further a b [] lt h = refl
  below_all_further a b (x ∷ xs) lt h =
      let p = and_parts _ _ h in
      rw (total.trans a b (own x) lt (Less-from_test _ p.0)) (below_all_further a b xs lt p.1)

  below_all_alike : (a b : K) (xs : List X) → cmp a b ≡ Equal → below_all own cmp a xs ≡ below_all own cmp b xs
  below_all_alike a b [] e = refl
  below_all_alike a b (x ∷ xs) e = rw (total.congr a b (own x) e, below_all_alike a b xs e) refl

  below_all-join : (k : K) (x : X) (xs : List X) → below_all own cmp k (join own cmp x xs) ≡ (is_lt (cmp k (own x)) && below_all own cmp k xs)
  below_all-join k x [] = refl
  below_all-join k x (y ∷ ys) = let ih = below_all-join k x ys in grind arith

  below_all-swap : (k : K) (x : X) (xs : List X) → below_all own cmp k (swap own cmp x xs) ≡ below_all own cmp k xs
  below_all-swap k x [] = refl
  below_all-swap k x (y ∷ ys) =
      let ih = below_all-swap k x ys in
      let same = λ (e : is_eq (cmp (own y) (own x)) ≡ true). alike_right total (own y) (own x) k (Equal-from_test (cmp (own y) (own x)) e) in
      grind arith

  pub in_order-swap : (x : X) (xs : List X) → in_order own cmp (swap own cmp x xs) ≡ in_order own cmp xs
  in_order-swap x [] = refl
  in_order-swap x (y ∷ ys) =
      let ih = in_order-swap x ys in
      let rest = below_all-swap (own y) x ys in
      let same = λ (e : is_eq (cmp (own y) (own x)) ≡ true). below_all_alike (own y) (own x) ys (Equal-from_test (cmp (own y) (own x)) e) in
      grind arith

  pub in_order-join : (x : X) (xs : List X) → find own cmp (own x) xs ≡ None → in_order own cmp xs ≡ true → in_order own cmp (join own cmp x xs) ≡ true
  in_order-join x [] none h = refl
  in_order-join x (y ∷ ys) none h =
      let ih = in_order-join x ys in
      let rest = below_all-join (own y) x ys in
      let turn = total.antisymm (own x) (own y) in
      let further = below_all_further (own x) (own y) ys in
      let P = λ (o : Ordering). cmp (own y) (own x) ≡ o → in_order own cmp (cond (is_gt o) (x ∷ (y ∷ ys)) (y ∷ join own cmp x ys)) ≡ true in
      let cases : P (cmp (own y) (own x)) = elim (cmp (own y) (own x)) as P [
        | Less ↦ λ is. grind arith
        | Equal ↦ λ is. grind arith
        | Greater ↦ λ is. grind arith
      ] in
      cases refl

  -- ---- the first from a key on
  -- a key below the first names none
  none_below : (x : X) (xs : List X) (q : K) → cmp q (own x) ≡ Less → below_all own cmp (own x) xs ≡ true → find own cmp q xs ≡ None
  none_below x [] q lt h = refl
  none_below x (y ∷ ys) q lt h =
      let p = and_parts _ _ h in
      let below : cmp q (own y) ≡ Less = total.trans q (own x) (own y) lt (Less-from_test _ p.0) in
      rw (total.antisymm (own y) q, below) (none_below x ys q lt p.1)

  -- a record below k does not change which is the first from k on
  first_behind : (x : X) (xs : List X) (k : K) (r : Option X) → cmp (own x) k ≡ Less → IsFirstFrom own cmp xs k r → IsFirstFrom own cmp (x ∷ xs) k r
  first_behind x xs k None lt h = λ q le. rw (below_from cmp total (own x) k q lt le) (h q le)
  first_behind x xs k (Some y) lt h = (h.0, rw (below_from cmp total (own x) k (own y) lt h.0) h.1, λ q le under. rw (below_from cmp total (own x) k q lt le) (h.2 q le under))

  pub seek_first : (xs : List X) → in_order own cmp xs ≡ true → (k : K) → IsFirstFrom own cmp xs k (seek own cmp k xs)
  seek_first [] h k = λ q le. refl
  seek_first (x ∷ xs) h k =
      let p = and_parts _ _ h in
      let P = λ (o : Ordering). cmp (own x) k ≡ o → IsFirstFrom own cmp (x ∷ xs) k (cond (is_lt o) (seek own cmp k xs) (Some x)) in
      let cases : P (cmp (own x) k) = elim (cmp (own x) k) as P [
        | Less ↦ λ is. first_behind x xs k (seek own cmp k xs) is (seek_first xs p.1 k)
        | Equal ↦ λ is. here p.0 (rw (total.antisymm k (own x), is) refl)
        | Greater ↦ λ is. here p.0 (rw (total.antisymm k (own x), is) refl)
      ] in
      cases refl
    where
      here : below_all own cmp (own x) xs ≡ true → is_gt (cmp k (own x)) ≡ false → IsFirstFrom own cmp (x ∷ xs) k (Some x)
      here up le = (le, rw (alike_self cmp total (own x)) refl, λ q from under. rw (total.antisymm (own x) q, under) (none_below x xs q under up))

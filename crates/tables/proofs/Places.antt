-- Where a search among records in order ends, and what is found and changed there.
use Rattle.std.proofs.Common.{◌≡◌, ℕ, ◌<◌, ◌≤◌, true, cond, ◌&&◌, List, length, get_or, Some, Result, Ok, Err, MatchResult, sym, ap, ◌∙◌, ⊎_elim, is_some, arith}
use Rattle.std.proofs.lemmas.Bool.{cases_lt}
use Rattle.std.proofs.lemmas.Cmp.{alike_right}
use Rattle.std.proofs.lemmas.List.Sorted.{searchable_from_sorted}
use Rattle.std.proofs.lemmas.Option.{slice_get-get_or, slice_get_cases}
use Rattle.std.specs.Cmp.{IsTotalOrder}
use Rattle.std.specs.List.Sorted.{IsSearchInRange, IsBinarySearchResult}
use Rattle.std.specs.Ordering.{is_eq, is_gt, is_lt}
use Rattle.std.specs.declared.cmp.Ordering.{Ordering}
use Rattle.std.specs.declared.cmp.Ordering.TheVariants.{Less, Equal, Greater}
use Rattle.tables.specs.Keys.{find, in_order}
use Rattle.tables.specs.Orders.{Exact}
use Rattle.tables.specs.Places.{Found, Missing}
use Rattle.tables.proofs.Listed.{find_none, find_at, seek_at, join_at, swap_at, find-join, find-swap, swap_none}
use Rattle.tables.proofs.Ordered.{apart, neighbours, in_order-join, in_order-swap}

module _ {X K : Type 0} (own : X → K) (cmp : K → K → Ordering) (total : IsTotalOrder cmp) (exact : Exact cmp) (xs : List X) (h : in_order own cmp xs ≡ true) (k : K) where
  module _ (i : ℕ) (before : (j : ℕ) (d : X) → j < i → cmp (own (get_or xs j d)) k ≡ Less) where
    -- the record at i has the key
    found_at : i < length xs → ((d : X) → cmp (own (get_or xs i d)) k ≡ Equal) → X → Found own cmp xs k i
    found_at l same d =
        let is = find_at own cmp k xs i d l (ap is_eq (same d)) (λ j e m. ap is_eq (before j e m)) in
        record {
          within = l;
          same = λ d. exact _ _ (same d);
          there = ap is_some is;
          named = is ∙ sym (slice_get-get_or xs i d l);
          first = seek_at own cmp k xs i (omega arith) (λ j e m. ap is_lt (before j e m)) (λ e m. ap is_lt (same e));
          changed = λ x e. swap_at own cmp x xs i x l (rw e (ap is_eq (same x))) (λ j f m. rw e (ap is_eq (before j f m)));
          by_key = λ x e q.
              let there : is_some (find own cmp (own x) xs) ≡ true = rw e (ap is_some is) in
              find-swap own cmp total x xs q ∙ ap (λ b. cond (b && is_eq (cmp (own x) q)) (Some x) (find own cmp q xs)) there;
          keeps = λ x e. in_order-swap own cmp total x xs ∙ h;
        }

    -- the records from i on have keys above
    missing_at : i ≤ length xs → ((j : ℕ) (d : X) → i ≤ j → j < length xs → cmp (own (get_or xs j d)) k ≡ Greater) → Missing own cmp xs k i
    missing_at l after =
        let none = find_none own cmp k xs (λ j d m. ⊎_elim (λ b. ap is_eq (before j d b)) (λ a. ap is_eq (after j d a m)) (cases_lt j i)) in
        record {
          within = l;
          named = none;
          first = seek_at own cmp k xs i l (λ j d m. ap is_lt (before j d m)) (λ d m. ap is_lt (after i d (omega arith) m));
          changed = λ x e. join_at own cmp x xs i l (λ j d m. rw e (ap is_gt (before j d m))) (λ d m. rw e (ap is_gt (after i d (omega arith) m)));
          unchanged = λ x e. swap_none own cmp x xs (rw e none);
          by_key = λ x e q. find-join own cmp total x xs q (rw e none);
          keeps = λ x e. in_order-join own cmp total x xs (rw e none) h;
        }

  -- a search ends at the key's place, or at the one where it would stand
  pub searched : (r : Result ℕ ℕ) → IsSearchInRange r (length xs) → IsBinarySearchResult (λ y. cmp (own y) k) xs r → MatchResult r (Found own cmp xs k) (Missing own cmp xs k)
  searched (Ok i) l equal =
      let before : (j : ℕ) (d : X) → j < i → cmp (own (get_or xs j d)) k ≡ Less = λ j d m. sym (alike_right total (own (get_or xs i d)) k (own (get_or xs j d)) (equal d)) ∙ apart own cmp total xs h j i d m l in
      ⊎_elim (λ p. found_at i before l equal p.0) (λ p. absurd (omega (arith, p.0))) (slice_get_cases xs i).1
  searched (Err i) l parted =
      let sides = parted (searchable_from_sorted total own xs k (neighbours own cmp total xs h)) in
      missing_at i (λ j d m. sides.0 j d (omega arith) m) l (λ j d a m. sides.1 j d a m)

-- Where a key stands among records in order, and what is found and changed there.
use Rattle.std.specs.Prelude.{◌≡◌, ℕ, ◌<◌, ◌≤◌, true, false, List, length, Some, None, Option, IsSome, insert, slice_get, slice_index_or, slice_set}
use Rattle.std.specs.Ordering.{is_gt}
use Rattle.std.specs.declared.cmp.Ordering.{Ordering}
use Rattle.std.specs.declared.cmp.Ordering.TheVariants.{Less}
use Rattle.tables.specs.Keys.{find, find_put, seek, join, swap, in_order}

-- r is the first record from the key k on: none is found from k up to its own key, or at all where there is none
abbrev pub IsFirstFrom : {X K : Type 0} → (X → K) → (K → K → Ordering) → List X → K → Option X → Type 0
IsFirstFrom {X} {K} own cmp xs k None = (q : K) → is_gt (cmp k q) ≡ false → find own cmp q xs ≡ None
IsFirstFrom {X} {K} own cmp xs k (Some x) = (is_gt (cmp k (own x)) ≡ false) × (find own cmp (own x) xs ≡ Some x) × ((q : K) → is_gt (cmp k q) ≡ false → cmp q (own x) ≡ Less → find own cmp q xs ≡ None)

-- the record with the key k stands at i
pub record Found {X K : Type 0} (own : X → K) (cmp : K → K → Ordering) (xs : List X) (k : K) (i : ℕ) : Type 0 where
  pub within : i < length xs
  pub same : (d : X) → own (slice_index_or xs i d) ≡ k
  pub there : IsSome (find own cmp k xs)
  pub named : find own cmp k xs ≡ slice_get xs i
  pub first : seek own cmp k xs ≡ slice_get xs i
  pub changed : (x : X) → own x ≡ k → swap own cmp x xs ≡ slice_set xs i x
  pub by_key : (x : X) → own x ≡ k → (q : K) → find own cmp q (swap own cmp x xs) ≡ find_put own cmp true x xs q
  pub keeps : (x : X) → own x ≡ k → in_order own cmp (swap own cmp x xs) ≡ true

-- no record has the key k, and i is where it would stand
pub record Missing {X K : Type 0} (own : X → K) (cmp : K → K → Ordering) (xs : List X) (k : K) (i : ℕ) : Type 0 where
  pub within : i ≤ length xs
  pub named : find own cmp k xs ≡ None
  pub first : seek own cmp k xs ≡ slice_get xs i
  pub changed : (x : X) → own x ≡ k → join own cmp x xs ≡ insert xs i x
  pub unchanged : (x : X) → own x ≡ k → swap own cmp x xs ≡ xs
  pub by_key : (x : X) → own x ≡ k → (q : K) → find own cmp q (join own cmp x xs) ≡ find_put own cmp true x xs q
  pub keeps : (x : X) → own x ≡ k → in_order own cmp (join own cmp x xs) ≡ true

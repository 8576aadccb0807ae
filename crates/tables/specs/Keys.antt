-- Lists of records, each with a key: own gives a record's key, and cmp orders the keys.
use Rattle.std.specs.Prelude.{Bool, true, cond, ◌&&◌, List, [], ◌∷◌, Some, None, Option}
use Rattle.std.specs.Ordering.{is_eq, is_lt, is_gt}
use Rattle.std.specs.declared.cmp.Ordering.{Ordering}

-- the first record with the key k
abbrev pub find : {X K : Type 0} → (X → K) → (K → K → Ordering) → K → List X → Option X
find own cmp k [] = None
find own cmp k (x ∷ xs) = cond (is_eq (cmp (own x) k)) (Some x) (find own cmp k xs)

-- what the key k finds when x has been put among xs; b says whether it has
abbrev pub find_put : {X K : Type 0} → (X → K) → (K → K → Ordering) → Bool → X → List X → K → Option X
find_put own cmp b x xs k = cond (b && is_eq (cmp (own x) k)) (Some x) (find own cmp k xs)

-- the first record whose key is k or above
abbrev pub seek : {X K : Type 0} → (X → K) → (K → K → Ordering) → K → List X → Option X
seek own cmp k [] = None
seek own cmp k (x ∷ xs) = cond (is_lt (cmp (own x) k)) (seek own cmp k xs) (Some x)

-- x joined before the first record of a greater key
abbrev pub join : {X K : Type 0} → (X → K) → (K → K → Ordering) → X → List X → List X
join own cmp x [] = x ∷ []
join own cmp x (y ∷ ys) = cond (is_gt (cmp (own y) (own x))) (x ∷ (y ∷ ys)) (y ∷ join own cmp x ys)

-- x in the place of the first record with its key
abbrev pub swap : {X K : Type 0} → (X → K) → (K → K → Ordering) → X → List X → List X
swap own cmp x [] = []
swap own cmp x (y ∷ ys) = cond (is_eq (cmp (own y) (own x))) (x ∷ ys) (y ∷ swap own cmp x ys)

-- the key k is below that of each record
abbrev pub below_all : {X K : Type 0} → (X → K) → (K → K → Ordering) → K → List X → Bool
below_all own cmp k [] = true
below_all own cmp k (x ∷ xs) = is_lt (cmp k (own x)) && below_all own cmp k xs

-- each key is below those that follow
abbrev pub in_order : {X K : Type 0} → (X → K) → (K → K → Ordering) → List X → Bool
in_order own cmp [] = true
in_order own cmp (x ∷ xs) = below_all own cmp (own x) xs && in_order own cmp xs

-- Points in the order of their arrival, as a look-up by number.
use Rattle.std.proofs.Common.{◌≡◌, ℕ, zero, suc, ◌+◌, ◌<◌, ◌≤◌, false, cond, not, ◌&&◌, eqb, ltb, leb, List, [], ◌∷◌, ◌++◌, length, get_or, take, set, is_some, Some, None, Ok, Err, Option, sym, refl, ap, ◌∙◌, subst, arith, MatchOption}
use Rattle.std.proofs.lemmas.List.{take_more, take_more_set, length-set, length-take-le}
use Rattle.std.proofs.lemmas.Bool.{cond_both, leb-true, leb-false, ltb-true, and_parts}
use Rattle.std.proofs.lemmas.Bool.Decides.{nat_tests}
use Rattle.market.specs.Looks.{Lowest, LowestFrom}
use Rattle.market.specs.Stores.{Added, Replaced}
use Rattle.market.specs.declared.refusals.AddError.TheVariants.{AlreadyThere}
use Rattle.market.specs.declared.points.Point.{Point}
use Rattle.std.proofs.lemmas.Cmp.{nat_cmp_total}
use Rattle.std.specs.Ordering.{nat_cmp, is_eq}
use Rattle.tables.proofs.Listed.{find_at, find_none, find-swap, swap_at}
use Rattle.market.proofs.Lists.{set-take, not_some, free_none}
use Rattle.tables.specs.Keys.{swap}
use Rattle.tables.specs.Points.{number_of}
use Rattle.tables.specs.Tables.{Records}
use Rattle.registers.specs.Points.{point_in, points_of}
use Rattle.registers.proofs.Sought.{added, replaced}
use Rattle.registers.specs.Arrivals.{apart, Apart, Arrived, Stands, lower}

-- ---- a point that comes last
find_last : (k : ℕ) (xs : List Point) (p : Point) → point_in (xs ++ p ∷ []) k ≡ cond (is_some (point_in xs k)) (point_in xs k) (cond (eqb p.number k) (Some p) None)
find_last k [] p = grind (arith, nat_tests)
find_last k (x ∷ xs) p = let ih = find_last k xs p in grind (arith, nat_tests)

next : (x : Point) (xs : List Point) → Apart (x ∷ xs) → (point_in xs x.number ≡ None) × Apart xs
next x xs a =
    (free_none (point_in xs x.number) (apart xs) (sym a), (and_parts (not (is_some (point_in xs x.number))) (apart xs) a).1)

apart_last : (xs : List Point) (p : Point) → Apart xs → point_in xs p.number ≡ None → Apart (xs ++ p ∷ [])
apart_last [] p a none = refl
apart_last (x ∷ xs) p a none =
    let ih = apart_last xs p (next x xs a).1 in
    let here = (next x xs a).0 in
    let last = find_last x.number xs p in
    grind (arith, nat_tests)

-- ---- a point in the place of another of its number
pub apart-swap : (p : Point) (xs : List Point) → apart (swap number_of nat_cmp p xs) ≡ apart xs
apart-swap p [] = refl
apart-swap p (y ∷ ys) =
    let ih = apart-swap p ys in
    let put = find-swap number_of nat_cmp nat_cmp_total p ys y.number in
    let same = ap (λ k. is_some (point_in ys k)) {x = p.number} {y = y.number} in
    grind (arith, nat_tests)

length_swap : (p : Point) (xs : List Point) → length (swap number_of nat_cmp p xs) ≡ length xs
length_swap p [] = refl
length_swap p (y ∷ ys) = let ih = length_swap p ys in grind arith

-- ---- by places
none_at : (k : ℕ) (xs : List Point) → point_in xs k ≡ None → (j : ℕ) (d : Point) → j < length xs → is_eq (nat_cmp (get_or xs j d).number k) ≡ false
none_at k [] h j d l = absurd (omega arith)
none_at k (x ∷ xs) h zero d l = grind arith
none_at k (x ∷ xs) h (suc j) d l = let rest : point_in xs k ≡ None = grind arith in none_at k xs rest j d (omega arith)

unlike : (xs : List Point) → Apart xs → (i j : ℕ) (d e : Point) → j < i → i < length xs → is_eq (nat_cmp (get_or xs j e).number (get_or xs i d).number) ≡ false
unlike [] a i j d e m l = absurd (omega arith)
unlike (x ∷ xs) a zero j d e m l = absurd (omega arith)
unlike (x ∷ xs) a (suc i) zero d e m l =
    let other = none_at x.number xs (next x xs a).0 i d (omega arith) in
    grind (arith, nat_tests)
unlike (x ∷ xs) a (suc i) (suc j) d e m l = unlike xs (next x xs a).1 i j d e (omega arith) (omega arith)

-- ---- a walk for the number k, when it has passed the first i points
pub record At (xs : List Point) (k i : ℕ) : Type 0 where
  pub within : i < length xs
  pub same : (d : Point) → (get_or xs i d).number ≡ k

abbrev pub Walked : List Point → ℕ → ℕ → Option ℕ → Type 0
Walked xs k i o = MatchOption o ((j : ℕ) (d : Point) → j < i → (get_or xs j d).number ≡ k → ⊥) (λ at. (at < i) × At xs k at)

module _ (xs : List Point) (a : Apart xs) (k : ℕ) where
  before : (i : ℕ) → At xs k i → (j : ℕ) (e : Point) → j < i → is_eq (nat_cmp (get_or xs j e).number k) ≡ false
  before i at j e m = subst (λ z. is_eq (nat_cmp (get_or xs j e).number z) ≡ false) (at.same e) (unlike xs a i j e e m at.within)

  stands : (i : ℕ) → At xs k i → Stands xs k i
  stands i at = record {
    within = at.within;
    named = at.same;
    there = λ d. find_at number_of nat_cmp k xs i d at.within (let same = at.same d in grind (arith, nat_tests)) (before i at);
    changed = λ p e. sym (swap_at number_of nat_cmp p xs i p at.within (let same = at.same p in grind (arith, nat_tests)) (λ j d m. subst (λ z. is_eq (nat_cmp (get_or xs j d).number z) ≡ false) (sym e) (before i at j d m)));
  }

  none_there : Walked xs k (length xs) None → point_in xs k ≡ None
  none_there w = find_none number_of nat_cmp k xs (λ j d l. let no = w j d l in grind (arith, nat_tests))

  pub walk_done : (o : Option ℕ) → Walked xs k (length xs) o → MatchOption o (point_in xs k ≡ None) (Stands xs k)
  walk_done None w = none_there w
  walk_done (Some i) w = stands i w.1

-- ---- an addition and a replacement, where the first n points are held
pub arrived : (xs : List Point) (n : ℕ) → (n ≤ length xs) × Apart (take n xs) → Arrived (record { items = take n xs; size = length xs })
arrived xs n h = (omega (arith, h.0, length-take-le n xs h.0), h.1)

pub there_already : (t : Records Point) (p : Point) (i : ℕ) → Stands t.items p.number i → Added p (Err AlreadyThere) (points_of t) (points_of t)
there_already t p i h = record { value = rw (h.there p) refl; accepted = rw (h.there p) refl; after = λ k. refl; shrinks = λ k e. e; refused = λ no k. refl }

module _ (xs : List Point) (n : ℕ) (fits : n ≤ length xs) (a : Apart (take n xs)) (t : Records Point) (held : record { items = take n xs; size = length xs } ≡ t) (p : Point) where
  pub apart_add : (n ≡ length xs → ⊥) → point_in t.items p.number ≡ None → (n + 1 ≤ length (set xs n p)) × Apart (take (n + 1) (set xs n p))
  apart_add free none =
      let absent : point_in (take n xs) p.number ≡ None = subst (λ u. point_in u.items p.number ≡ None) (sym held) none in
      let long = length-set xs n p in
      (omega (arith, long), subst Apart (sym (take_more_set xs n p (omega arith))) (apart_last (take n xs) p a absent))

  pub joined : (n ≡ length xs → ⊥) → point_in t.items p.number ≡ None → Added p (Ok tt) (points_of t) (points_of (record { items = take (n + 1) (set xs n p); size = length (set xs n p) }))
  joined free = subst (λ u. point_in u.items p.number ≡ None → Added p (Ok tt) (points_of u) (points_of (record { items = take (n + 1) (set xs n p); size = length (set xs n p) }))) held
      (λ none.
      let few = length-take-le n xs fits in
      let more = length-take-le (n + 1) (set xs n p) (omega (arith, length-set xs n p)) in
      let gone = λ (k : ℕ). not_some (point_in (take n xs) k) in
      added p (record { items = take n xs; size = length xs }) (record { items = take (n + 1) (set xs n p); size = length (set xs n p) }) (length-set xs n p) (Ok tt)
      (rw none (let size = few in grind (arith, nat_tests)))
      (λ k. ap (λ ys. point_in ys k) (take_more_set xs n p (omega arith)) ∙ find_last k (take n xs) p ∙ (let same = ap (point_in (take n xs)) {x = p.number} {y = k} in let none_at = not_some (point_in (take n xs) k) in grind (arith, nat_tests)))
      (omega (arith, few, more)))

  module _ (i : ℕ) (at : Stands t.items p.number i) where
    swapped : take n (set xs i p) ≡ swap number_of nat_cmp p (take n xs)
    swapped = subst (λ u. Stands u.items p.number i → take n (set xs i p) ≡ swap number_of nat_cmp p u.items → take n (set xs i p) ≡ swap number_of nat_cmp p (take n xs)) held (λ _ e. e) at (sym (set-take n xs i p) ∙ subst (λ u. set u.items i p ≡ swap number_of nat_cmp p t.items) (sym held) (at.changed p refl))

    pub apart_replace : (n ≤ length (set xs i p)) × Apart (take n (set xs i p))
    apart_replace = (omega (arith, length-set xs i p), ap apart swapped ∙ apart-swap p (take n xs) ∙ a)

    pub put : Replaced p (Ok tt) (points_of t) (points_of (record { items = take n (set xs i p); size = length (set xs i p) }))
    put =
        let r : point_in (take n xs) p.number ≡ Some (get_or t.items i p) = subst (λ u. point_in u.items p.number ≡ Some (get_or t.items i p)) (sym held) (at.there p) in
        subst (λ u. Replaced p (Ok tt) (points_of u) (points_of (record { items = take n (set xs i p); size = length (set xs i p) }))) held
        (replaced p (record { items = take n xs; size = length xs }) (record { items = take n (set xs i p); size = length (set xs i p) }) (length-set xs i p) (Ok tt)
        (rw r refl)
        (λ k. ap (λ ys. point_in ys k) swapped ∙ find-swap number_of nat_cmp nat_cmp_total p (take n xs) k ∙ (rw r refl))
        (ap length swapped ∙ length_swap p (take n xs)))

-- ---- one turn of the walk for the lowest
module _ (f g : ℕ → Option Point) (x : Point) (more : (k : ℕ) → g k ≡ cond (is_some (f k)) (f k) (cond (eqb x.number k) (Some x) None)) (n : ℕ) where
  lowest_new : n ≤ x.number → ((k : ℕ) → n ≤ k → k ≤ x.number → f k ≡ None) → Lowest g n x
  lowest_new l h = record {
    from = l;
    there = let m = more x.number in let e = h x.number l (omega arith) in grind (arith, nat_tests);
    none = λ k a b. let m = more k in let e = h k a (omega arith) in grind (arith, nat_tests);
  }

  lowest_old : (y : Point) → Lowest f n y → (n ≤ x.number → x.number < y.number → ⊥) → Lowest g n y
  lowest_old y h other = record {
    from = h.from;
    there = let m = more y.number in let e = h.there in grind (arith, nat_tests);
    none = λ k a b. let m = more k in let e = h.none k a b in grind (arith, nat_tests);
  }

  lowest_turn : (o : Option Point) → LowestFrom f n o → LowestFrom g n (lower n x o)
  lowest_turn None h =
      cond_both (leb n x.number) (Some x) None (LowestFrom g n)
      (λ e. lowest_new (leb-true _ _ e) (λ k a b. h k a))
      (λ e k a. let m = more k in let none = h k a in let lt = leb-false n x.number e in grind (arith, nat_tests))
  lowest_turn (Some y) h =
      cond_both (leb n x.number && ltb x.number y.number) (Some x) (Some y) (LowestFrom g n)
      (λ e. let p = and_parts _ _ e in let lt = ltb-true _ _ p.1 in lowest_new (leb-true _ _ p.0) (λ k a b. h.none k a (omega arith)))
      (λ e. lowest_old y h (λ a b. grind (arith, nat_tests)))

pub lowest_more : (xs : List Point) (i n : ℕ) (d : Point) (o : Option Point) → i < length xs → LowestFrom (point_in (take i xs)) n o → LowestFrom (point_in (take (i + 1) xs)) n (lower n (get_or xs i d) o)
lowest_more xs i n d o l h =
    lowest_turn (point_in (take i xs)) (point_in (take (i + 1) xs)) (get_or xs i d) (λ k. ap (λ ys. point_in ys k) (take_more xs i d l) ∙ find_last k (take i xs) (get_or xs i d)) n o h

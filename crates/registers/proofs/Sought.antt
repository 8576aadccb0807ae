-- Points of a list as a register: a look-up by number, and what an addition and a replacement do to it.
use Rattle.std.proofs.Common.{◌≡◌, ℕ, ◌+◌, Bool, true, false, cond, not, ◌&&◌, ltb, length, is_some, is_ok, Some, None, Option, Result, refl, ap, ◌∙◌, arith}
use Rattle.std.proofs.lemmas.Bool.Decides.{nat_tests}
use Rattle.std.specs.Ordering.{nat_cmp, is_eq}
use Rattle.market.specs.Looks.{put_at}
use Rattle.market.specs.Stores.{addition, Added, Replaced}
use Rattle.market.specs.declared.points.Point.{Point}
use Rattle.market.specs.declared.refusals.AddError.{AddError}
use Rattle.market.specs.declared.refusals.Absent.{Absent}
use Rattle.tables.proofs.Orders.{numbers_alike}
use Rattle.tables.specs.Tables.{Records}
use Rattle.registers.specs.Points.{point_in, points_of}

-- a number has a place only where no point has it, so a place decides as room does
room_for : (o : Option Point) (b : Bool) → addition o b ≡ addition o (not (is_some o) && b)
room_for None b = refl
room_for (Some p) b = refl

accepted_for : (o : Option Point) (b : Bool) → is_ok (addition o b) ≡ not (is_some o) && b
accepted_for None true = refl
accepted_for None false = refl
accepted_for (Some p) b = refl

some_put : (r : Bool) (p : Point) (f : ℕ → Option Point) (k : ℕ) → is_some (put_at r p f k) ≡ false → is_some (f k) ≡ false
some_put r p f k h = grind (arith, nat_tests)

module _ (p : Point) (t u : Records Point) (room : u.size ≡ t.size) where
  by_number : (r : Bool) → ((k : ℕ) → point_in u.items k ≡ cond (r && is_eq (nat_cmp p.number k)) (Some p) (point_in t.items k)) → (k : ℕ) → point_in u.items k ≡ put_at r p (point_in t.items) k
  by_number r h k = h k ∙ ap (λ b. cond (r && b) (Some p) (point_in t.items k)) (numbers_alike p.number k)

  -- the point joined, or all stayed
  pub added : (r : Result (Unit {0}) AddError) → r ≡ addition (point_in t.items p.number) (ltb (length t.items) t.size) → ((k : ℕ) → point_in u.items k ≡ cond (is_ok r && is_eq (nat_cmp p.number k)) (Some p) (point_in t.items k)) → length u.items ≡ cond (is_ok r) (length t.items + 1) (length t.items) → Added p r (points_of t) (points_of u)
  added r told keyed count = record {
    value = told ∙ room_for (point_in t.items p.number) (ltb (length t.items) t.size);
    accepted = ap is_ok told ∙ accepted_for (point_in t.items p.number) (ltb (length t.items) t.size);
    after = by_number (is_ok r) keyed;
    shrinks = λ k h. let put = ap is_some (by_number (is_ok r) keyed k) in let less = some_put (is_ok r) p (point_in t.items) k in grind (arith, nat_tests);
    refused = λ no k. let put = ap is_some (by_number (is_ok r) keyed k) in grind (arith, nat_tests);
  }

  -- the point took the place of the one of its number, or all stayed
  pub replaced : (r : Result (Unit {0}) Absent) → is_ok r ≡ is_some (point_in t.items p.number) → ((k : ℕ) → point_in u.items k ≡ cond (is_ok r && is_eq (nat_cmp p.number k)) (Some p) (point_in t.items k)) → length u.items ≡ length t.items → Replaced p r (points_of t) (points_of u)
  replaced r told keyed count = record {
    value = told;
    after = by_number (is_ok r) keyed;
    same = λ k. let put = ap is_some (by_number (is_ok r) keyed k) in let here = ap (λ j. is_some (point_in t.items j)) {x = p.number} {y = k} in grind (arith, nat_tests);
  }

-- What follows from the laws of an order, and when two numbers, or two pairs of them, are alike.
use Rattle.std.proofs.Common.{◌≡◌, ℕ, true, false, ◌&&◌, eqb, refl, sym, ap, ◌∙◌, arith}
use Rattle.std.proofs.lemmas.Bool.Decides.{nat_tests}
use Rattle.std.proofs.lemmas.Cmp.{alike_right, tied_itself}
use Rattle.std.specs.Cmp.{IsTotalOrder}
use Rattle.std.specs.Ordering.{is_eq, is_gt, is_lt, nat_cmp}
use Rattle.std.specs.declared.cmp.Ordering.{Ordering}
use Rattle.std.specs.declared.cmp.Ordering.TheVariants.{Less, Equal, Greater}
use Rattle.tables.specs.Orders.{pair_cmp}

-- ---- what a test says
pub Less-from_test : (o : Ordering) → is_lt o ≡ true → o ≡ Less
Less-from_test Less e = refl
Less-from_test Equal e = cc
Less-from_test Greater e = cc

pub Equal-from_test : (o : Ordering) → is_eq o ≡ true → o ≡ Equal
Equal-from_test Less e = cc
Equal-from_test Equal e = refl
Equal-from_test Greater e = cc

-- ---- numbers and pairs
pub numbers_alike : (a b : ℕ) → is_eq (nat_cmp a b) ≡ eqb a b
numbers_alike a b = grind (arith, nat_tests)

pub pairs_alike : (a b : ℕ × ℕ) → is_eq (pair_cmp a b) ≡ (eqb a.0 b.0 && eqb a.1 b.1)
pairs_alike a b = grind (arith, nat_tests)

module _ {K : Type 0} (cmp : K → K → Ordering) (total : IsTotalOrder cmp) where
  pub alike_self : (a : K) → is_eq (cmp a a) ≡ true
  alike_self a = ap is_eq (tied_itself total a)

  -- a is below k, and k not above q
  pub below_from : (a k q : K) → cmp a k ≡ Less → is_gt (cmp k q) ≡ false → cmp a q ≡ Less
  below_from a k q lt le = cases (cmp k q) refl le
    where
      cases : (o : Ordering) → cmp k q ≡ o → is_gt o ≡ false → cmp a q ≡ Less
      cases Less is _ = total.trans a k q lt is
      cases Equal is _ = sym (alike_right total k q a is) ∙ lt
      cases Greater is le = cc

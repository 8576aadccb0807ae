-- The sixteen bytes of a notice say what it is, and no other notice within its limits has them.
use Rattle.std.proofs.Common.{◌≡◌, ℕ, ◌+◌, ◌*◌, ◌/◌, ◌%◌, ◌<◌, List, [], ◌∷◌, get_or, Some, unwrap_or, sym, refl, ap, ◌∙◌, mod-eq_of_lt, arith, lit<, Option, None}
use Rattle.std.specs.Option.{ok_or}
use Rattle.std.specs.Result.{result_unwrap_or}
use lib.Arith.{mod-mul}
use Rattle.market.specs.declared.notices.Notice.{Notice}
use Rattle.market.specs.declared.notices.NoticeKind.{NoticeKind}
use Rattle.market.specs.declared.notices.NoticeKind.TheVariants as kind
use Rattle.market.specs.declared.notices.Role.{Role}
use Rattle.market.specs.declared.notices.Role.TheVariants as role
use Rattle.market.specs.Numbers.{role_number, notice_kind_number, role_of, notice_kind_of, unknown}
use Rattle.market.specs.Codes.{bytes_of, read_of, Valid}

-- a number of two, four or eight bytes is read back from its bytes
two_back : (n : ℕ) → n < 65536 → n / 256 % 256 * 256 + n % 256 ≡ n
two_back n h = omega arith

four_sum : (a b c d x y n : ℕ) → n ≡ a + y → y ≡ b + x → x ≡ c + d → a + b + c + d ≡ n
four_sum a b c d x y n p q r = omega arith

four_back : (n : ℕ) → n < 4294967296 → n / 16777216 % 256 * 16777216 + n / 65536 % 256 * 65536 + n / 256 % 256 * 256 + n % 256 ≡ n
four_back n h =
    let less : n ≡ n % 4294967296 = sym (mod-eq_of_lt h) in
    four_sum _ _ _ _ _ _ _ (less ∙ mod-mul n {m = 256} {c = 16777216} (lit< tt) (lit< tt)) (mod-mul n {m = 256} {c = 65536} (lit< tt) (lit< tt)) (mod-mul n {m = 256} {c = 256} (lit< tt) (lit< tt))

eight_sum : (a b c d e f g h t u v x y z n : ℕ) → n ≡ a + z → z ≡ b + y → y ≡ c + x → x ≡ d + v → v ≡ e + u → u ≡ f + t → t ≡ g + h → a + b + c + d + e + f + g + h ≡ n
eight_sum a b c d e f g h t u v x y z n p₁ p₂ p₃ p₄ p₅ p₆ p₇ = omega arith

eight_back : (n : ℕ) → n < 18446744073709551616 → n / 72057594037927936 % 256 * 72057594037927936 + n / 281474976710656 % 256 * 281474976710656 + n / 1099511627776 % 256 * 1099511627776 + n / 4294967296 % 256 * 4294967296 + n / 16777216 % 256 * 16777216 + n / 65536 % 256 * 65536 + n / 256 % 256 * 256 + n % 256 ≡ n
eight_back n h =
    let less : n ≡ n % 18446744073709551616 = sym (mod-eq_of_lt h) in
    eight_sum _ _ _ _ _ _ _ _ _ _ _ _ _ _ _ (less ∙ mod-mul n {m = 256} {c = 72057594037927936} (lit< tt) (lit< tt))
    (mod-mul n {m = 256} {c = 281474976710656} (lit< tt) (lit< tt))
    (mod-mul n {m = 256} {c = 1099511627776} (lit< tt) (lit< tt))
    (mod-mul n {m = 256} {c = 4294967296} (lit< tt) (lit< tt))
    (mod-mul n {m = 256} {c = 16777216} (lit< tt) (lit< tt))
    (mod-mul n {m = 256} {c = 65536} (lit< tt) (lit< tt))
    (mod-mul n {m = 256} {c = 256} (lit< tt) (lit< tt))

-- a kind or a role is found by its number
kind_of_number : (k : NoticeKind) → notice_kind_of (notice_kind_number k) ≡ Some k
kind_of_number kind.Validated = refl
kind_of_number kind.Invitation = refl
kind_of_number kind.Confirmed = refl
kind_of_number kind.Rejected = refl
kind_of_number kind.Withdrawn = refl
kind_of_number kind.Annulled = refl
kind_of_number kind.Cancelled = refl
kind_of_number kind.Secured = refl
kind_of_number kind.Deregistered = refl
kind_of_number kind.MemAppointed = refl

role_of_number : (r : Role) → role_of (role_number r) ≡ Some r
role_of_number role.Gainer = refl
role_of_number role.Supplier = refl
role_of_number role.GainingShipper = refl
role_of_number role.Shipper = refl
role_of_number role.Mem = refl
role_of_number role.Dc = refl
role_of_number role.Da = refl
role_of_number role.Map = refl
role_of_number role.Dcc = refl
role_of_number role.Des = refl
role_of_number role.GasAgent = refl
role_of_number role.Ecoes = refl
role_of_number role.ElectricityAgent = refl

-- the case of a number, or else the first
pub case_or : {X : Type 0} (o : Option X) (x : X) → result_unwrap_or (ok_or o unknown) x ≡ unwrap_or o x
case_or None x = refl
case_or (Some y) x = refl

-- a notice that fits its types is read back from its bytes
pub read_back : (n : Notice) → n.point < 18446744073709551616 → n.moment < 4294967296 → n.party < 65536 → read_of (bytes_of n) ≡ n
read_back n hp hm hq =
    let p = eight_back n.point hp in
    let m = four_back n.moment hm in
    let q = two_back n.party hq in
    let k = ap (λ o. unwrap_or o kind.Validated) (kind_of_number n.kind) in
    let r = ap (λ o. unwrap_or o role.Gainer) (role_of_number n.role) in
    λ i. record { point = p i; moment = m i; party = q i; kind = k i; role = r i }

-- the bytes of the parts, one after the other
pub laid : (n : Notice) (p m q : List ℕ) (k r : ℕ) → p ≡ (n.point / 72057594037927936 % 256) ∷ (n.point / 281474976710656 % 256) ∷ (n.point / 1099511627776 % 256) ∷ (n.point / 4294967296 % 256) ∷ (n.point / 16777216 % 256) ∷ (n.point / 65536 % 256) ∷ (n.point / 256 % 256) ∷ (n.point % 256) ∷ [] → m ≡ (n.moment / 16777216 % 256) ∷ (n.moment / 65536 % 256) ∷ (n.moment / 256 % 256) ∷ (n.moment % 256) ∷ [] → q ≡ (n.party / 256 % 256) ∷ (n.party % 256) ∷ [] → k ≡ notice_kind_number n.kind → r ≡ role_number n.role → get_or p 0 0 ∷ get_or p 1 0 ∷ get_or p 2 0 ∷ get_or p 3 0 ∷ get_or p 4 0 ∷ get_or p 5 0 ∷ get_or p 6 0 ∷ get_or p 7 0 ∷ get_or m 0 0 ∷ get_or m 1 0 ∷ get_or m 2 0 ∷ get_or m 3 0 ∷ get_or q 0 0 ∷ get_or q 1 0 ∷ k ∷ r ∷ [] ≡ bytes_of n
laid n p m q k r hp hm hq hk hr i = get_or (hp i) 0 0 ∷ get_or (hp i) 1 0 ∷ get_or (hp i) 2 0 ∷ get_or (hp i) 3 0 ∷ get_or (hp i) 4 0 ∷ get_or (hp i) 5 0 ∷ get_or (hp i) 6 0 ∷ get_or (hp i) 7 0 ∷ get_or (hm i) 0 0 ∷ get_or (hm i) 1 0 ∷ get_or (hm i) 2 0 ∷ get_or (hm i) 3 0 ∷ get_or (hq i) 0 0 ∷ get_or (hq i) 1 0 ∷ hk i ∷ hr i ∷ []

-- one notice at most within its limits has given bytes: what they are read as
pub alone : (n : Notice) (bs : List ℕ) → Valid n → bytes_of n ≡ bs → n ≡ read_of bs
alone n bs v is = sym (read_back n (omega (arith, v.point_to)) (omega (arith, v.moment_to)) (omega (arith, v.party_to))) ∙ ap read_of is

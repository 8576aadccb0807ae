-- The sixteen bytes of a notice: point (8), moment (4), party (2), kind and role, highest byte first.
use Rattle.std.specs.Prelude.{◌≡◌, ℕ, ◌+◌, ◌*◌, ◌/◌, ◌%◌, ◌≤◌, List, [], ◌∷◌, nat_eq, nat_lt, slice_index}
use Rattle.std.specs.Option.{unwrap_or}
use Rattle.market.specs.declared.notices.Notice.{Notice}
use Rattle.market.specs.declared.notices.NoticeKind.TheVariants.{Validated}
use Rattle.market.specs.declared.notices.Role.TheVariants.{Gainer}
use Rattle.market.specs.Numbers.{role_number, notice_kind_number, role_of, notice_kind_of}

abbrev pub bytes_of : Notice → List ℕ
bytes_of n =
    (n.point / 72057594037927936 % 256) ∷ (n.point / 281474976710656 % 256) ∷ (n.point / 1099511627776 % 256) ∷ (n.point / 4294967296 % 256)
    ∷ (n.point / 16777216 % 256) ∷ (n.point / 65536 % 256) ∷ (n.point / 256 % 256) ∷ (n.point % 256)
    ∷ (n.moment / 16777216 % 256) ∷ (n.moment / 65536 % 256) ∷ (n.moment / 256 % 256) ∷ (n.moment % 256)
    ∷ (n.party / 256 % 256) ∷ (n.party % 256) ∷ notice_kind_number n.kind ∷ role_number n.role ∷ []

-- the numbers at the places of the point, the moment and the party
abbrev pub eight : List ℕ → ℕ
eight bs = slice_index bs 0 * 72057594037927936 + slice_index bs 1 * 281474976710656 + slice_index bs 2 * 1099511627776 + slice_index bs 3 * 4294967296 + slice_index bs 4 * 16777216 + slice_index bs 5 * 65536 + slice_index bs 6 * 256 + slice_index bs 7

abbrev pub four : List ℕ → ℕ
four bs = slice_index bs 8 * 16777216 + slice_index bs 9 * 65536 + slice_index bs 10 * 256 + slice_index bs 11

abbrev pub two : List ℕ → ℕ
two bs = slice_index bs 12 * 256 + slice_index bs 13

-- the notice that sixteen bytes are read as; a kind or role that does not exist is read as the first
abbrev pub read_of : List ℕ → Notice
read_of bs = record {
  point = eight bs;
  moment = four bs;
  party = two bs;
  kind = unwrap_or (notice_kind_of (slice_index bs 14)) Validated;
  role = unwrap_or (role_of (slice_index bs 15)) Gainer;
}

-- a notice within its limits: a point's number, a moment, and a party exactly for roles 1 to 8
pub record Valid (n : Notice) : Type 0 where
  pub point_from : 1 ≤ n.point
  pub point_to : n.point ≤ 9999999999999
  pub moment_to : n.moment ≤ 143999999
  pub party_to : n.party ≤ 65535
  pub party_role : nat_eq n.party 0 ≡ nat_lt 8 (role_number n.role)

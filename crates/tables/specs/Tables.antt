-- What a table holds, and where it has a place.
use Rattle.std.specs.Prelude.{◌≡◌, ℕ, ◌≤◌, Bool, true, not, ◌&&◌, List, length, is_some, nat_lt}
use Rattle.std.specs.declared.cmp.Ordering.{Ordering}
use Rattle.tables.specs.Keys.{find, in_order}

-- the records in the order of their keys, and how many there is room for in all
pub record Records (T : Type 0) : Type 0 where
  pub items : List T
  pub size : ℕ

-- no more records than there is room for, and they stand in the order of their keys
abbrev pub Sound : {T K : Type 0} → (T → K) → (K → K → Ordering) → Records T → Type 0
Sound own cmp t = (length t.items ≤ t.size) × (in_order own cmp t.items ≡ true)

-- room for one more record
abbrev pub has_room : {T : Type 0} → Records T → Bool
has_room t = nat_lt (length t.items) t.size

-- a place for the key k: it is absent, and there is room for one more
abbrev pub placed : {T K : Type 0} → (T → K) → (K → K → Ordering) → Records T → K → Bool
placed own cmp t k = not (is_some (find own cmp k t.items)) && has_room t

-- Bytes as notices, sixteen bytes for each.
use Rattle.std.specs.Prelude.{ℕ, ◌+◌, ◌*◌, ◌/◌, List, ◌++◌, map, length, take, drop}
use Rattle.std.specs.List.{range_with_len}
use Rattle.market.specs.declared.notices.Notice.{Notice}
use Rattle.market.specs.Codes.{read_of}

-- the notice that starts at byte 16 * k
abbrev pub record_at : List ℕ → ℕ → Notice
record_at bs k = read_of (drop (16 * k) bs)

-- all of them; what is left over at the end belongs to none
abbrev pub records : List ℕ → List Notice
records bs = map (record_at bs) (range_with_len 0 (length bs / 16))

-- the bytes with a notice's code at its place: those before, the sixteen of the code, and those after
abbrev pub with_code : List ℕ → ℕ → List ℕ → List ℕ
with_code bs k code = take (16 * k) bs ++ (code ++ drop (16 * k + 16) bs)

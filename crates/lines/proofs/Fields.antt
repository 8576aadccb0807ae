-- One turn of reading the fields' numbers.
use Rattle.std.proofs.Common.{◌≡◌, ℕ, ◌+◌, List, ◌++◌, map, length, take}
use Rattle.words.specs.Numbers.{weighed}
use Rattle.lines.specs.Decoding.{first_bad}

-- i of the N fields `all` are read, into `out`, and `rest` is left
pub record Kept (N i : ℕ) (all rest : List (List ℕ)) (out : List ℕ) : Type 0 where
  pub long : length rest + i ≡ N
  pub room : length out ≡ N
  pub good : first_bad 1 all ≡ first_bad (i + 1) rest
  pub read : map weighed all ≡ take i out ++ map weighed rest

-- A line's words: what stands between its spaces (byte 32). An empty word counts, so a line has one word more than spaces.
use Rattle.std.specs.Prelude.{ℕ, List, [], drop, Option, Some, None, ◌==◌}
use Rattle.std.specs.List.{slice_split}

abbrev pub words : List ℕ → List (List ℕ)
words line = slice_split (λ b. b == 32) line

-- the words of a line from a cursor on, and none where there is no cursor
abbrev pub left : List ℕ → Option ℕ → List (List ℕ)
left line None = []
left line (Some at) = words (drop at line)

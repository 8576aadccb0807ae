-- The words that a reader has still to give.
use Rattle.std.specs.Prelude.{ℕ, List}
use Rattle.words.specs.Words.{left}
use Rattle.words.specs.declared.readers.Reader.{Reader}

abbrev pub unread : Reader → List (List ℕ)
unread r = left r.line.now r.at

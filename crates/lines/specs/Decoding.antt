-- The command that a line gives, or what is wrong with it, from the line's bytes.
use Rattle.std.specs.Prelude.{ℕ, ◌+◌, cond, List, [], ◌∷◌, map, length, is_some, Some, None, Ok, Err, Option, Result, ◌==◌, nat_lt, slice_index}
use Rattle.lines.specs.declared.verbs.Verb.{Verb}
use Rattle.lines.specs.declared.verbs.Verb.TheVariants as v
use Rattle.lines.specs.declared.commands.Command.{Command}
use Rattle.lines.specs.declared.commands.Command.TheVariants.{Party, Link, Call}
use Rattle.engine.specs.declared.calls.Call.TheVariants as call
use Rattle.words.specs.declared.faults.FeedFault.{FeedFault}
use Rattle.words.specs.declared.faults.FeedFault.TheVariants.{Line}
use Rattle.words.specs.declared.faults.FieldFault.TheVariants.{NotANumber}
use Rattle.words.specs.declared.faults.LineFault.{LineFault}
use Rattle.words.specs.declared.faults.LineFault.TheVariants.{TooLong, UnknownWord, WrongCount, Field}
use Rattle.words.specs.Numbers.{numeral, weighed}
use Rattle.lines.specs.Verbs.{count_of, verb_of}
use Rattle.words.specs.Words.{words}

-- the command that a verb gives with its numbers
abbrev pub make_of : Verb → List ℕ → Command
make_of v.Party ns = Party (record { number = slice_index ns 0; role = slice_index ns 1; qualified = slice_index ns 2; sanctioned = slice_index ns 3 })
make_of v.Link ns = Link (record { supplier = slice_index ns 0; shipper = slice_index ns 1 })
make_of v.Point ns = Call (call.Create (record { number = slice_index ns 0; fuel = slice_index ns 1; domestic = slice_index ns 2; status = slice_index ns 3 }))
make_of v.Initial ns = Call (call.Initial (record { point = slice_index ns 0; gainer = slice_index ns 1; shipper = slice_index ns 2; start = slice_index ns 3 }))
make_of v.Advance ns = Call (call.Advance (slice_index ns 0))
make_of v.Take ns = Call call.Take

-- the first of the fields that is no number, where the first of them counts as i
abbrev pub first_bad : ℕ → List (List ℕ) → Option ℕ
first_bad i [] = None
first_bad i (w ∷ ws) = cond (is_some (numeral w)) (first_bad (i + 1) ws) (Some i)

abbrev pub unless_bad : Option ℕ → List ℕ → Result (List ℕ) LineFault
unless_bad None ns = Ok ns
unless_bad (Some i) ns = Err (Field (NotANumber i))

-- the numbers of exactly n fields
abbrev pub fields_of : ℕ → List (List ℕ) → Result (List ℕ) LineFault
fields_of n ws = cond (length ws == n) (unless_bad (first_bad 1 ws) (map weighed ws)) (Err WrongCount)

abbrev pub made : (List ℕ → Command) → Result (List ℕ) LineFault → Result Command LineFault
made f (Ok ns) = Ok (f ns)
made f (Err e) = Err e

abbrev pub command_of : Verb → List (List ℕ) → Result Command LineFault
command_of v ws = made (make_of v) (fields_of (count_of v) ws)

abbrev pub by_verb : Option Verb → List (List ℕ) → Result Command LineFault
by_verb None ws = Err UnknownWord
by_verb (Some v) ws = command_of v ws

abbrev pub by_words : List (List ℕ) → Result Command LineFault
by_words [] = Err UnknownWord
by_words (w ∷ ws) = by_verb (verb_of w) ws

-- a line over 80 bytes, an unknown word, a wrong number of fields, and a field that is no number, in this order
abbrev pub decoded : List ℕ → Result Command LineFault
decoded line = cond (nat_lt 80 (length line)) (Err TooLong) (by_words (words line))

abbrev pub of_feed : Result Command LineFault → Result Command FeedFault
of_feed (Ok c) = Ok c
of_feed (Err e) = Err (Line e)

abbrev pub accepted : List ℕ → Result Command FeedFault
accepted line = of_feed (decoded line)

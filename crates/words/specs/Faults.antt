-- The number of each fault, and the field that it names.
use Rattle.std.specs.Prelude.{ℕ}
use Rattle.words.specs.declared.faults.FeedFault.{FeedFault}
use Rattle.words.specs.declared.faults.FeedFault.TheVariants.{Line}
use Rattle.words.specs.declared.faults.FieldFault.{FieldFault}
use Rattle.words.specs.declared.faults.FieldFault.TheVariants.{NotANumber}
use Rattle.words.specs.declared.faults.LineFault.{LineFault}
use Rattle.words.specs.declared.faults.LineFault.TheVariants.{TooLong, UnknownWord, WrongCount, Field}

abbrev pub fault_number : LineFault → ℕ
fault_number (Field f) = 21
fault_number UnknownWord = 22
fault_number WrongCount = 23
fault_number TooLong = 24

abbrev pub field_place : FieldFault → ℕ
field_place (NotANumber i) = i

-- a fault of the whole line is printed with field 0
abbrev pub fault_field : LineFault → ℕ
fault_field (Field f) = field_place f
fault_field UnknownWord = 0
fault_field WrongCount = 0
fault_field TooLong = 0

-- the line's fault that a feed's fault holds
abbrev pub line_fault_of : FeedFault → LineFault
line_fault_of (Line f) = f

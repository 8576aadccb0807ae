use Rattle.words.specs.Readers.{unread}
use Rattle.lines.proofs.Fields.{Kept}
use Rattle.lines.proofs.decoding.fields.Given as goal

abbrev pub invariant-loop-i : goal.invariant-loop-i
invariant-loop-i g l = Kept g.row.N l.i (unread l.fn.reader) (unread l.reader) l.slot-items

-- The notices of a short list.
use Rattle.std.specs.Prelude.{List, take}
use Rattle.market.specs.declared.notices.Notice.{Notice}
use Rattle.rules.specs.declared.owed.Owed.{Owed}

abbrev pub listed : Owed → List Notice
listed o = take o.count o.notices

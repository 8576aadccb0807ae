-- What stands in a place that no notice has taken.
use Rattle.market.specs.declared.notices.Notice.{Notice}
use Rattle.market.specs.declared.notices.NoticeKind.TheVariants.{Validated}
use Rattle.market.specs.declared.notices.Role.TheVariants.{Gainer}

abbrev pub blank : Notice
blank = record { point = 0; moment = 0; party = 0; kind = Validated; role = Gainer }

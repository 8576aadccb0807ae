use Rattle.std.proofs.Common.{◌≡◌, ◌++◌, ◌≤◌, length, drop}
use Rattle.rules.specs.Notices.{notices_to, mailed}
use Rattle.rules.specs.Owing.{listed}
use Rattle.rules.proofs.sending.Mailing.owed.Given as goal

-- at most one notice to each role so far; with those to the other roles they are all
abbrev pub invariant-loop-role : goal.invariant-loop-role
invariant-loop-role l = record {
  few : length (listed l.owed) ≤ l.role-index;
  all : listed l.owed ++ notices_to l.self (drop l.role-index l.role-items) ≡ mailed l.self;
}

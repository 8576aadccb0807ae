use Rattle.std.proofs.Common.{◌≡◌, ◌-◌, ◌++◌, take}
use Rattle.engine.proofs.settling.post.Given as goal

-- the notices so far wait
abbrev pub invariant-loop-notice : goal.invariant-loop-notice
invariant-loop-notice g l =
    let queue = g.O.Outbox.queue in
    record {
      waiting : (queue l.outbox).waiting ≡ (queue l.initial.outbox).waiting ++ take l.notice-index l.notices;
      room : (queue l.outbox).room ≡ (queue l.initial.outbox).room - l.notice-index;
      size : (queue l.outbox).size ≡ (queue l.initial.outbox).size;
    }

-- The reply to an answer, and its text.
use Rattle.std.specs.Prelude.{ℕ, List, ◌++◌, Some, None, Ok, Err, codes, decimal, Result}
use Rattle.market.specs.declared.notices.Notice.{Notice}
use Rattle.market.specs.declared.refusals.Refusal.{Refusal}
use Rattle.market.specs.Numbers.{refusal_number, notice_kind_number, role_number}
use Rattle.rules.specs.Steps.{turn_name}
use Rattle.engine.specs.declared.calls.Answer.{Answer}
use Rattle.engine.specs.declared.calls.Answer.TheVariants as answer
use Rattle.words.specs.Faults.{fault_number, fault_field, line_fault_of}
use Rattle.desk.specs.declared.replies.Reply.{Reply}
use Rattle.desk.specs.declared.replies.Reply.TheVariants as reply

abbrev pub reply_to : Result Answer Refusal → Reply
reply_to (Ok a) = reply.Accepted a
reply_to (Err r) = reply.Refused r

-- an addition to the directory has no more to say than that it is done
abbrev pub added_reply : Result (Unit {0}) Refusal → Reply
added_reply (Ok u) = reply.Accepted answer.Done
added_reply (Err r) = reply.Refused r

-- kind, role, party, point and moment
abbrev pub notice_text : Notice → List ℕ
notice_text n = codes "notice " ++ (decimal (notice_kind_number n.kind) ++ (codes " " ++ (decimal (role_number n.role) ++ (codes " " ++ (decimal n.party ++ (codes " " ++ (decimal n.point ++ (codes " " ++ decimal n.moment))))))))

abbrev pub answer_text : Answer → List ℕ
answer_text answer.Done = codes "ok"
answer_text (answer.Taken None) = codes "none"
answer_text (answer.Taken (Some n)) = notice_text n
answer_text (answer.Stepped p t m) = codes "step " ++ (decimal p ++ (codes " " ++ (turn_name t ++ (codes " " ++ decimal m))))
answer_text (answer.Reached m) = codes "reached " ++ decimal m

-- the text of a reply, without the end of the line
abbrev pub text_of : Reply → List ℕ
text_of (reply.Accepted a) = answer_text a
text_of (reply.Refused r) = codes "refused " ++ decimal (refusal_number r)
text_of (reply.Fault f) = codes "line " ++ (decimal f.line ++ (codes " fault " ++ (decimal (fault_number (line_fault_of f.fault)) ++ (codes " field " ++ decimal (fault_field (line_fault_of f.fault))))))

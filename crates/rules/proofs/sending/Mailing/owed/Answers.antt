use Rattle.std.proofs.Common.{[], ◌∷◌, sym, ap, ◌∙◌, length, length-append, arith}
use Rattle.market.specs.Numbers.{roles}
use Rattle.market.specs.declared.notices.Role.TheVariants.{Gainer}
use Rattle.rules.specs.Owing.{listed}
use Rattle.rules.proofs.Mailed.{mailed_more, mailed_past}
use Rattle.rules.proofs.sending.Mailing.owed.Goals as goal
use Rattle.rules.proofs.sending.Mailing.owed.Goals.{in-Some, in_default}

pub loop-role-preserved : goal.loop-role-preserved
loop-role-preserved c =
    let out = listed c.loop-role.owed in
    let i = c.loop-role.role-index in
    let here = c.loop-role-test.true in
    let was = c.loop-role.invariant in
    elim c.match-notice_to.branch [
      | in-Some w ↦ record {
        few = rw w.owed-is (omega (arith, was.few, ap length w.push.ensures ∙ length-append out (w.in-Some.notice ∷ [])));
        all = rw (w.owed-is, w.push.ensures) (mailed_more c.args.self out roles i Gainer here w.in-Some.notice (sym w.in-Some.is ∙ c.notice_to.ensures) ∙ was.all);
      }
      | in_default w ↦ record {
        few = rw w.owed-is (omega (arith, was.few));
        all = rw w.owed-is (mailed_past c.args.self out roles i Gainer here (sym w.in_default.is ∙ c.notice_to.ensures) ∙ was.all);
      }
    ]

use Rattle.std.proofs.Common.{Err, sym, ap, ◌∙◌}
use Rattle.std.proofs.lemmas.Result.{err_from_is_err_and}
use Rattle.lines.proofs.Chosen.{unknown}
use Rattle.lines.proofs.decoding.decode.Goals as goal

pub returns-in_err-verb : goal.returns-in_err-verb
returns-in_err-verb c =
    let p = err_from_is_err_and c.from_residual-in_err-verb.result c.from_residual-in_err-verb.ensures.1 in
    let words = rw c.in_ok-word.ensures.ok_part at c.step.ensures.words in
    let none = rw c.in_err-verb.ensures.ok_part at c.from_name.ensures in
    let fault = rw c.in_err-verb.ensures.ok_part at c.in_err-verb.ensures.value in
    let u = unknown c.args.line.now _ _ c.if-line-gt-LONGEST.false (sym c.over-reader.ensures.words ∙ words) none in
    p.1 ∙ ap Err (p.2 ∙ cc) ∙ u

use Rattle.std.proofs.Common.{Some, Err, ap, ◌∙◌}
use Rattle.std.proofs.lemmas.Result.{err_from_is_err_and}
use Rattle.rules.specs.Rows.{initial_rows}
use Rattle.rules.specs.Changes.{owed_confirmed}
use Rattle.rules.specs.Steps.{with_request}
use Rattle.engine.specs.declared.calls.Answer.TheVariants.{Done}
use Rattle.engine.specs.Effects.{changing, requesting}
use Rattle.engine.proofs.Chains.{unchanged, found, stopped_by, passed_by, at_effect}
use Rattle.engine.proofs.engines.Engine.initial.Goals as goal

pub returns-in_err-check_initial : goal.returns-in_err-check_initial
returns-in_err-check_initial g c =
    let p = err_from_is_err_and c.from_residual-in_err-check_initial.result c.from_residual-in_err-check_initial.ensures.1 in
    let rows = initial_rows (g.D.Directory.parties c.args.directory.now) c.args.self.now.clock c.in_ok-point.point c.in_ok-asked.asked in
    found _ _ _ _ _ c.in_ok-asked.ensures c.in_ok-nothing_due.ensures c.read.ensures.value c.read.ensures.named c.in_ok-point.ensures.ok_part
    (stopped_by rows _ _ _ _ _ c.in_err-check_initial.ensures (p.1 ∙ (λ i. Err (p.2 i))) (unchanged _))

pub returns : goal.returns
returns g c =
    let asked = c.in_ok-asked.asked in
    let point = c.in_ok-point.point in
    let clock = c.args.self.now.clock in
    let request = c.initial_request.ensures in
    let owed = c.owed.ensures ∙ ap (λ q. owed_confirmed point (Some q) clock) request in
    let rows = initial_rows (g.D.Directory.parties c.args.directory.now) clock point asked in
    found _ _ _ _ _ c.in_ok-asked.ensures c.in_ok-nothing_due.ensures c.read.ensures.value c.read.ensures.named c.in_ok-point.ensures.ok_part
    (passed_by rows _ _ _ _ _ c.in_ok-check_initial.ensures
    (at_effect _ (requesting asked point clock) _ _ _ (λ i. changing (with_request (Some (request i)) point) (owed i) clock Done) c.settle.ensures))

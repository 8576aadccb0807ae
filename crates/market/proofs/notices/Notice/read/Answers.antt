use Rattle.std.proofs.Common.{◌≡◌, ap, ◌∙◌, rules, slice_index, unwrap_or}
use Rattle.std.specs.Option.{ok_or}
use Rattle.std.specs.Result.{result_unwrap_or}
use Rattle.market.specs.Numbers.{notice_kind_of, role_of, unknown}
use Rattle.market.specs.declared.notices.NoticeKind.TheVariants.{Validated}
use Rattle.market.specs.declared.notices.Role.TheVariants.{Gainer}
use Rattle.market.proofs.Bytes.{case_or}
use Rattle.market.proofs.notices.Notice.read.Goals as goal

pub returns : goal.returns
returns c =
    let kind : c.unwrap_or.result ≡ unwrap_or (notice_kind_of (slice_index c.args.code 14)) Validated = c.unwrap_or.ensures ∙ ap (λ r. result_unwrap_or r Validated) (c.try_from.ensures ∙ ap (λ n. ok_or (notice_kind_of n) unknown) c.from.ensures) ∙ case_or (notice_kind_of (slice_index c.args.code 14)) Validated in
    let role : c.unwrap_or-2.result ≡ unwrap_or (role_of (slice_index c.args.code 15)) Gainer = c.unwrap_or-2.ensures ∙ ap (λ r. result_unwrap_or r Gainer) (c.try_from-2.ensures ∙ ap (λ n. ok_or (role_of n) unknown) c.from-2.ensures) ∙ case_or (role_of (slice_index c.args.code 15)) Gainer in
    search rules

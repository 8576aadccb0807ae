use Rattle.std.proofs.Common.{ap, ◌∙◌, arith}
use Rattle.market.specs.Codes.{read_of}
use Rattle.market.proofs.Bytes.{read_back, laid}
use Rattle.market.proofs.codes.ArrayU816FromNotice.from.Goals as goal

pub returns : goal.returns
returns c =
    let n = c.args.notice in
    let value = laid n _ _ _ _ _ c.to_be_bytes.ensures c.to_be_bytes-2.ensures c.to_be_bytes-3.ensures c.from-kind.ensures c.from-role.ensures in
    (value, ap read_of value ∙ read_back n (omega arith) (omega arith) (omega arith))

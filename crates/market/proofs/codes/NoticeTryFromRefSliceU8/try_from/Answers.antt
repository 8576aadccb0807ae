use Rattle.std.proofs.Common.{◌≡◌, sym, refl, ap, ◌∙◌, subst}
use Rattle.std.proofs.lemmas.Slice.Eq.{slice_eq-Decides}
use Rattle.std.proofs.lemmas.Bool.Decides.{not_from_Decides, Decides-eqb}
use Rattle.market.specs.Codes.{bytes_of, Valid}
use Rattle.market.proofs.Bytes.{alone}
use Rattle.market.proofs.codes.NoticeTryFromRefSliceU8.try_from.Goals as goal
use Rattle.market.proofs.codes.NoticeTryFromRefSliceU8.try_from.Goals.{else-is_valid-via-else-is_valid, else-is_valid-via-then-is_valid+else-eq}

pub returns-then-eq : goal.returns-then-eq
returns-then-eq c =
    let same : c.from.result ≡ c.in-Ok.code = (slice_eq-Decides Decides-eqb _ _ _ c.eq.ensures).0 c.if-eq.true in
    (c.is_valid.ensures.0 c.if-is_valid.true, sym c.from.ensures.0 ∙ same ∙ c.in-Ok.ensures.1.same)

pub returns-else-is_valid : goal.returns-else-is_valid
returns-else-is_valid c = (
  refl,
  λ n v is.
      let code : bytes_of n ≡ c.in-Ok.code = is ∙ sym c.in-Ok.ensures.1.same in
      let it : n ≡ c.read-notice.result = alone n c.in-Ok.code v code ∙ sym c.read-notice.ensures in
      elim c.else-is_valid.branch [
        | else-is_valid-via-else-is_valid w ↦ not_from_Decides _ c.is_valid.ensures w.if-is_valid.false (subst Valid it v)
        | else-is_valid-via-then-is_valid+else-eq w ↦
            not_from_Decides _ (slice_eq-Decides Decides-eqb _ _ _ w.eq.ensures) w.if-eq.false (w.from.ensures.0 ∙ sym (ap bytes_of it) ∙ code)
      ],
)

-- One role more on a list.
use Rattle.std.proofs.Common.{◌≡◌, ℕ, ◌+◌, ◌<◌, List, [], ◌∷◌, ◌++◌, length, get_or, drop, Some, None, arith}
use Rattle.std.proofs.lemmas.List.{append_assoc, drop_more}
use Rattle.market.specs.declared.notices.Notice.{Notice}
use Rattle.market.specs.declared.notices.Role.{Role}
use Rattle.rules.specs.declared.sending.Mailing.{Mailing}
use Rattle.rules.specs.Notices.{notice_to, notices_to}

module _ (m : Mailing) (out : List Notice) (rs : List Role) (i : ℕ) (d : Role) (l : i < length rs) where
  -- a role that gets a notice
  pub mailed_more : (n : Notice) → Some n ≡ notice_to m (get_or rs i d) → (out ++ n ∷ []) ++ notices_to m (drop (i + 1) rs) ≡ out ++ notices_to m (drop i rs)
  mailed_more n is = rw (drop_more rs i d l, ← is) (search (append_assoc, arith))

  -- a role that gets none
  pub mailed_past : None ≡ notice_to m (get_or rs i d) → out ++ notices_to m (drop (i + 1) rs) ≡ out ++ notices_to m (drop i rs)
  mailed_past is = rw (drop_more rs i d l, ← is) (search arith)

-- How the count of working days grows day by day.
use Rattle.std.proofs.Common.{◌≡◌, ℕ, zero, suc, ◌+◌, ◌<◌, ◌≤◌, Bool, true, false, cond, ◌&&◌, ltb, sym, refl, ap, ◌∙◌, ⊎_elim, arith}
use Rattle.std.proofs.lemmas.Bool.{lt-ltb, le-ltb, cases_lt}
use Rattle.working_days.specs.Days.{working_between}

module _ (works : ℕ → Bool) (day : ℕ) where
  -- nothing lies between a day and the next
  pub between_none : (e : ℕ) → e ≤ day + 1 → working_between works day e ≡ 0
  between_none zero h = refl
  between_none (suc e) h =
      let past : ltb day e ≡ false = le-ltb day e (omega arith) in
      let step : working_between works day (suc e) ≡ working_between works day e + 0 = ap (λ b. working_between works day e + cond (b && works e) 1 0) past in
      let below = between_none e (omega arith) in omega arith

  -- one day more
  pub between_more : (e : ℕ) (b : Bool) → day < e → b ≡ works e → working_between works day (e + 1) ≡ working_between works day e + cond b 1 0
  between_more e b h is =
      let s : e + 1 ≡ suc e = omega arith in
      let after : ltb day e ≡ true = lt-ltb day e h in
      ap (working_between works day) s ∙ ap (λ t. working_between works day e + cond (t && works e) 1 0) after ∙ ap (λ w. working_between works day e + cond w 1 0) (sym is)

  -- with more days no fewer work
  pub between_grows : (e f : ℕ) → e ≤ f → working_between works day e ≤ working_between works day f
  between_grows e zero h =
      let at : e ≡ 0 = omega arith in
      let same = ap (working_between works day) at in omega arith
  between_grows e (suc f) h =
      let step : working_between works day (suc f) ≡ working_between works day f + cond (ltb day f && works f) 1 0 = refl in
      ⊎_elim
      (λ l. let below = between_grows e f (omega arith) in omega arith)
      (λ l. let at : e ≡ suc f = omega arith in let same = ap (working_between works day) at in omega arith)
      (cases_lt e (suc f))

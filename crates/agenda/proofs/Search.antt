-- One point more in the search for the earliest step.
use Rattle.std.proofs.Common.{◌≡◌, ℕ, ◌+◌, ◌<◌, ◌≤◌, ltb, leb, ◌⊎◌, IfSome, Some, None, Option, sym, refl, ap, ◌∙◌, subst, inl, inr, ⊎_elim, arith}
use Rattle.std.specs.Option.{option_map}
use Rattle.std.proofs.lemmas.Option.{IfSome_then, none-some, same_Some}
use Rattle.std.proofs.lemmas.Bool.{cases_lt, cases_order, cond_both, leb-true, leb-false, ltb-true, ltb-false}
use Rattle.market.specs.declared.points.Point.{Point}
use Rattle.market.specs.Looks.{Lowest}
use Rattle.rules.specs.declared.steps.Step.{Step}
use Rattle.rules.specs.declared.steps.Turn.{Turn}
use Rattle.rules.specs.Steps.{step_of, next_step}
use Rattle.agenda.specs.Earliest.{NotBefore, First, Earliest, sooner}

-- a step is of the point it was found at
mapped_point : (p : Point) (o : Option (Turn × ℕ)) (t : Step) → option_map (λ x. record { point = p; turn = x.0; moment = x.1 }) o ≡ Some t → t.point ≡ p
mapped_point p None t h = absurd (none-some t h)
mapped_point p (Some x) t h = sym (ap (λ (s : Step). s.point) (same_Some _ t h))

pub step_point : (p : Point) (t : Step) → step_of p ≡ Some t → t.point ≡ p
step_point p t h = mapped_point p (next_step p.leaving p.request) t h

module _ (look : ℕ → Option Point) (upto n : ℕ) (p : Point) (low : Lowest look n p) where
  -- a point up to p was seen before, or is p
  seen : (k : ℕ) (q : Point) → k < p.number + 1 → look k ≡ Some q → (k < n) ⊎ ((k ≡ p.number) × (q ≡ p))
  seen k q l e =
      ⊎_elim inl (λ ge. ⊎_elim
      (λ is. inr (is, same_Some q p (sym e ∙ ap look is ∙ low.there)))
      (⊎_elim (λ lt. absurd (none-some q (sym (low.none k ge lt) ∙ e))) (λ gt. absurd (omega arith)))
      (cases_order k p.number)) (cases_lt k n)

  -- a property of every step below n and of p's step is one of every step up to p
  upto_p : (P : ℕ → Step → Type 0) (o : Option Step) → step_of p ≡ o → IfSome o (P p.number) → ((k : ℕ) (q : Point) → k < n → look k ≡ Some q → IfSome (step_of q) (P k)) → (k : ℕ) (q : Point) → k < p.number + 1 → look k ≡ Some q → IfSome (step_of q) (P k)
  upto_p P o e here below k q l f =
      ⊎_elim (λ lt. below k q lt f)
      (λ is. subst (λ j. IfSome (step_of q) (P j)) (sym is.0) (subst (λ r. IfSome r (P p.number)) (sym (ap step_of is.1 ∙ e)) here))
      (seen k q l f)

  -- p's step is the first
  first_here : (t : Step) → step_of p ≡ Some t → t.moment ≤ upto → ((k : ℕ) (q : Point) → k < n → look k ≡ Some q → IfSome (step_of q) (λ u. t.moment < u.moment)) → First look upto (p.number + 1) t
  first_here t e due later =
      let own = step_point p t e in
      let number : t.point.number ≡ p.number = ap (λ (x : Point). x.number) own in
      record {
        there = ap look number ∙ low.there ∙ ap Some (sym own);
        below = omega arith;
        own = ap step_of own ∙ e;
        due = due;
        first = upto_p (NotBefore t) (Some t) e (inr (refl, omega arith)) (λ k q l f. IfSome_then (step_of q) (later k q l f) (λ u h. inl h));
      }

  pub earliest_more : (o best : Option Step) → step_of p ≡ o → Earliest look upto n best → Earliest look upto (p.number + 1) (sooner upto best o)
  earliest_more None None e h = upto_p (λ k t. upto < t.moment) None e tt h
  earliest_more None (Some s) e h = record {
    there = h.there;
    below = let b = h.below in let f = low.from in omega arith;
    own = h.own;
    due = h.due;
    first = upto_p (NotBefore s) None e tt h.first;
  }
  earliest_more (Some t) None e h =
      cond_both (leb t.moment upto) (Some t) None (Earliest look upto (p.number + 1))
      (λ b. let due = leb-true t.moment upto b in first_here t e due (λ k q l f. IfSome_then (step_of q) (h k q l f) (λ u m. omega arith)))
      (λ b. upto_p (λ k u. upto < u.moment) (Some t) e (leb-false t.moment upto b) h)
  earliest_more (Some t) (Some s) e h =
      let due = h.due in
      let under = h.below in
      let from = low.from in
      cond_both (ltb t.moment s.moment) (Some t) (Some s) (Earliest look upto (p.number + 1))
      (λ b. let less = ltb-true t.moment s.moment b in
      first_here t e (omega arith) (λ k q l f. IfSome_then (step_of q) (h.first k q l f) (λ u m. ⊎_elim (λ lt. omega arith) (λ eq. let is = eq.0 in omega arith) m)))
      (λ b. let more = ltb-false t.moment s.moment b in
      record {
        there = h.there;
        below = omega arith;
        own = h.own;
        due = due;
        first = upto_p (NotBefore s) (Some t) e (⊎_elim (λ eq. inr (eq, omega arith)) (⊎_elim (λ lt. inl lt) (λ gt. absurd (omega arith))) (cases_order s.moment t.moment)) h.first;
      })

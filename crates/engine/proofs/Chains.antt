-- A chain of checks, one after the other, is the outcome that the table gives.
use Rattle.std.proofs.Common.{◌≡◌, IfSome, List, Some, None, Ok, Err, Option, Result, sym, refl, ap, ◌∙◌, subst}
use Rattle.std.specs.Result.{result_ok, result_err}
use Rattle.std.proofs.lemmas.Option.{none-some}
use Rattle.market.specs.declared.points.Point.{Point}
use Rattle.market.specs.declared.refusals.Refusal.{Refusal}
use Rattle.market.specs.declared.refusals.Refusal.TheVariants.{OutsideLimits, NoSuchPoint}
use Rattle.rules.specs.declared.limits.Asked.{Asked}
use Rattle.rules.specs.Limits.{or_outside}
use Rattle.rules.specs.Rows.{Row, first_of, passing}
use Rattle.engine.specs.declared.calls.Answer.{Answer}
use Rattle.engine.specs.Effects.{Effect}
use Rattle.engine.specs.Outcome.{Unchanged, Needs, Unless, Passes, Settled, Foreseen}
use Rattle.engine.specs.State.{State}
use Rattle.engine.specs.Table.{overdue}

pub unchanged : (s : State) → Unchanged s s
unchanged s = record { points = λ k. refl; places = λ k. refl; clock = refl; queue = refl }

module _ {X : Type 0} (o : Option X) (s : State) (r : Result Answer Refusal) (t : State) (Next : X → Type 0) where
  -- the numbers are within their limits
  pub inside : (x : X) → Ok x ≡ or_outside o → Next x → Needs OutsideLimits o s r t Next
  inside x h n = elim o as (λ v. Ok x ≡ or_outside v → Needs OutsideLimits v s r t Next) [
    | None ↦ λ g. absurd (none-some _ (ap result_err g))
    | Some y ↦ λ g. let same : x ≡ y = cc in subst Next same n
  ] h

  pub present : (q : Refusal) (x : X) → o ≡ Some x → Next x → Needs q o s r t Next
  present q x h n = subst (λ v. Needs q v s r t Next) (sym h) n

module _ (rows : List Row) (s : State) (r : Result Answer Refusal) (t : State) (Next : Type 0) where
  -- from a function that checks the rows
  pub stopped_by : (q : Refusal) → Err q ≡ passing (first_of rows) → r ≡ Err q → Unchanged s t → Passes rows s r t Next
  stopped_by q h is u = elim (first_of rows) as (λ v. Err q ≡ passing v → Unless v s r t Next) [
    | None ↦ λ g. absurd (none-some _ (ap result_ok g))
    | Some p ↦ λ g. let same : q ≡ p = cc in (is ∙ (λ i. Err (same i)), u)
  ] h

  pub passed_by : (x : Unit {0}) → Ok x ≡ passing (first_of rows) → Next → Passes rows s r t Next
  passed_by x h n = elim (first_of rows) as (λ v. Ok x ≡ passing v → Unless v s r t Next) [
    | None ↦ λ g. n
    | Some p ↦ λ g. absurd (none-some _ (ap result_err g))
  ] h

module _ (s : State) (r : Result Answer Refusal) (t : State) where
  -- the numbers are within their limits, and nothing is due
  pub none_due : {X : Type 0} (o : Option X) (Next : X → Type 0) {x : X} {u : Unit {0}} → Ok x ≡ or_outside o → Foreseen s s.clock (λ due. Ok u ≡ passing (first_of (overdue due))) → Next x → Needs OutsideLimits o s r t (λ y. Foreseen s s.clock (λ due. Passes (overdue due) s r t (Next y)))
  none_due o Next {x} {u} h due n = inside o s r t _ x h (due.0, due.1, passed_by (overdue due.0) s r t (Next x) u due.2 n)

  -- and the point is found, under its number
  pub found : (o : Option Asked) (Next : Asked → Point → Type 0) {a : Asked} {u : Unit {0}} {read : Option Point} {p : Point} → Ok a ≡ or_outside o → Foreseen s s.clock (λ due. Ok u ≡ passing (first_of (overdue due))) → read ≡ s.look a.point → IfSome read (λ q. q.number ≡ a.point) → read ≡ Some p → Next a p → Needs OutsideLimits o s r t (λ b. Foreseen s s.clock (λ due. Passes (overdue due) s r t (Needs NoSuchPoint (s.look b.point) s r t (λ q. (q.number ≡ b.point) × Next b q))))
  found o Next {a} {u} {read} {p} h due there named is n =
      none_due o _ h due (present _ s r t _ NoSuchPoint p (sym there ∙ is) (subst (λ v. IfSome v (λ q. q.number ≡ a.point)) is named, n))

-- the same effect, said in another way
pub at_effect : (d e : Effect) (s : State) (r : Result Answer Refusal) (t : State) → d ≡ e → Settled d s r t → Settled e s r t
at_effect d e s r t h o = subst (λ x. Settled x s r t) h o

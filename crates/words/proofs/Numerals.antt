-- A word's digits, read from the left, write the number that the places' weights give.
use Rattle.std.proofs.Common.{◌≡◌, ℕ, ◌*◌, ◌+◌, ◌-◌, ◌^◌, ◌<◌, ◌≤◌, true, List, length, take, get_or, Some, None, sym, ap, ◌∙◌, arith, rules, take_all}
use Rattle.std.specs.Char.{is_ascii_digit}
use Rattle.std.specs.List.{list_all}
use Rattle.std.specs.Str.Parse.{digits_value}
use Rattle.std.proofs.lemmas.Bool.{cond-true}
use Rattle.std.proofs.lemmas.Bool.Decides.{nat_tests}
use Rattle.std.proofs.lemmas.Int.Digits.{digits_value_more}
use Rattle.std.proofs.lemmas.Str.{digit_value_digit}
use Rattle.std.proofs.lemmas.Str.Parse.{IsNumeralModel, numerals_by_weight, digit_at, digits_value_short, digits_value-take-le}
use Rattle.words.specs.Numbers.{is_numeral, numeral, weighed}

pub own : IsNumeralModel (λ w. list_all is_ascii_digit w ≡ true) weighed
own = numerals_by_weight _ (search rules) weighed (search rules)

module _ (w : List ℕ) (is : is_numeral w ≡ true) where
  short : length w ≤ 13
  short = grind (arith, nat_tests)

  all : list_all is_ascii_digit w ≡ true
  all = grind (arith, nat_tests)

  -- what the first i digits write: the number, where those are all
  pub written : (i : ℕ) → length w ≤ i → numeral w ≡ Some (digits_value 10 (take i w))
  written i all_read =
      cond-true (is_numeral w) (Some (weighed w)) None is ∙ ap Some (own.same w (own.to w all))
      ∙ ap (λ ds. Some (digits_value 10 ds)) (sym (take_all i w all_read))

  pub bound : (i : ℕ) → digits_value 10 (take i w) < 10 ^ 13
  bound i = omega (arith, digits_value-take-le 10 w i (omega arith), digits_value_short own w 13 all short, own.same w (own.to w all))

  pub one_more : (i : ℕ) → i < length w → digits_value 10 (take i w) * 10 + (get_or w i 0 - 48) ≡ digits_value 10 (take (i + 1) w)
  one_more i lt =
      let digit = digit_value_digit _ (digit_at w i (own.to w all) lt) in
      omega (arith, digits_value_more 10 w i lt, digit)

pub ruleset reading = (written, bound, one_more)

-- The lists of receivers, role by role.
use Rattle.std.specs.Prelude.{◌≡◌, ℕ, cond, List, [], ◌∷◌}
use Rattle.market.specs.declared.notices.Role.{Role}
use Rattle.market.specs.declared.points.Fuel.{Fuel}
use Rattle.market.specs.declared.points.Fuel.TheVariants.{Gas, Electricity}
use Rattle.market.specs.Numbers.{role_number, roles}
use Rattle.rules.specs.declared.sending.Audience.{Audience}
use Rattle.rules.specs.declared.sending.Audience.TheVariants.{Validation, Confirmation, Securing, Deregistration}
use Rattle.rules.specs.Notices.{reaches}

-- the numbers of those of some roles that stand on a list
abbrev pub among : Audience → Fuel → List Role → List ℕ
among a f [] = []
among a f (r ∷ rs) = cond (reaches a f r) (role_number r ∷ among a f rs) (among a f rs)

abbrev pub list_of : Audience → Fuel → List ℕ
list_of a f = among a f roles

pub record ListsStand : Type 0 where
  pub validation_gas : list_of Validation Gas ≡ 1 ∷ 2 ∷ 3 ∷ 4 ∷ 9 ∷ 10 ∷ 11 ∷ []
  pub validation_electricity : list_of Validation Electricity ≡ 1 ∷ 2 ∷ 9 ∷ 12 ∷ 13 ∷ []
  pub confirmation_gas : list_of Confirmation Gas ≡ 1 ∷ 2 ∷ 3 ∷ 4 ∷ 5 ∷ 9 ∷ 10 ∷ 11 ∷ []
  pub confirmation_electricity : list_of Confirmation Electricity ≡ 1 ∷ 2 ∷ 5 ∷ 6 ∷ 7 ∷ 9 ∷ 12 ∷ 13 ∷ []
  pub securing_gas : list_of Securing Gas ≡ 1 ∷ 2 ∷ 3 ∷ 4 ∷ 5 ∷ 8 ∷ 9 ∷ 10 ∷ 11 ∷ []
  pub securing_electricity : list_of Securing Electricity ≡ 1 ∷ 2 ∷ 5 ∷ 6 ∷ 7 ∷ 8 ∷ 9 ∷ 12 ∷ 13 ∷ []
  pub deregistration_gas : list_of Deregistration Gas ≡ 2 ∷ 4 ∷ 5 ∷ 8 ∷ 9 ∷ 10 ∷ 11 ∷ []
  pub deregistration_electricity : list_of Deregistration Electricity ≡ 2 ∷ 5 ∷ 6 ∷ 7 ∷ 8 ∷ 9 ∷ 12 ∷ 13 ∷ []

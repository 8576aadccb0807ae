-- The row of the table of refusals that an unknown number is, and that a refused addition is.
use Rattle.market.specs.declared.refusals.AddError.{AddError}
use Rattle.market.specs.declared.refusals.AddError.TheVariants as add
use Rattle.market.specs.declared.refusals.UnknownNumber.{UnknownNumber}
use Rattle.market.specs.declared.refusals.Refusal.{Refusal}
use Rattle.market.specs.declared.refusals.Refusal.TheVariants as row

abbrev pub row_of_add : AddError → Refusal
row_of_add add.AlreadyThere = row.AlreadyThere
row_of_add add.NoPlace = row.NoPlace

-- a number of no case is outside its limits
abbrev pub row_of_unknown : UnknownNumber → Refusal
row_of_unknown e = row.OutsideLimits

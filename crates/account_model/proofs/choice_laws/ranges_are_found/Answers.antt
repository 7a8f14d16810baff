use Rattle.std.proofs.Common.{subst}
use Rattle.account_model.specs.FreeRange.{IsFreeRange, free_range}
use Rattle.account_model.proofs.FreeRangeLaws.{free_range-is, free_range-one}
use Rattle.account_model.proofs.choice_laws.ranges_are_found.Goals as goal

pub returns : goal.returns
returns c = λ low high count records start some. (
  free_range-one low high count records (free_range low high count records) start
      (free_range-is low high count some records),
  λ e. subst (λ found. IsFreeRange low high count records found) e
      (free_range-is low high count some records),
)
